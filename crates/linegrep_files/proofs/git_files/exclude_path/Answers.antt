use Rattle.linegrep_files.specs.GitFiles.{IsExcludePath, of_other_folder, of_own}
use Rattle.linegrep_files.proofs.GitFileLemmas.{ok-at}
use Rattle.linegrep_files.proofs.git_files.exclude_path.Goals as goal

pub returns-in-Some : goal.returns-in-Some
returns-in-Some g c = ok-at _ (IsExcludePath (g.S.Folders.facts c.args.system.now).reads c.args.folder.now) _
    (rw c.as_str.ensures.value at c.join.ensures) (of_other_folder _ (rw c.in-Some.is at c.in_ok-at.ensures))

pub returns-in-None : goal.returns-in-None
returns-in-None g c = ok-at _ (IsExcludePath (g.S.Folders.facts c.args.system.now).reads c.args.folder.now) _
    c.join-in-None.ensures (of_own (rw c.in-None.is at c.in_ok-at.ensures))
