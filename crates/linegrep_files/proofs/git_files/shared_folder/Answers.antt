use Rattle.linegrep_files.specs.GitFiles.{IsShared, of_alone, of_shared}
use Rattle.linegrep_files.proofs.GitFileLemmas.{ok-at}
use Rattle.linegrep_files.proofs.git_files.shared_folder.Goals as goal

pub returns-in-Some : goal.returns-in-Some
returns-in-Some g c = ok-at _ (IsShared (g.S.Folders.facts c.args.system.now).reads c.args.folder.now) _
    c.resolve.ensures
    (of_shared _ _ (rw (c.in-Some.is, c.as_str.ensures.value, c.in_ok-path.ensures) at c.in_ok-text.ensures)
    (rw c.as_str-in-Some.ensures.value at c.trim_ascii.ensures.value))

pub returns : goal.returns
returns g c = ok-at _ (IsShared (g.S.Folders.facts c.args.system.now).reads c.args.folder.now) _ c.from_str.ensures.ok
    (of_alone (rw (c.in-None.is, c.as_str.ensures.value, c.in_ok-path.ensures) at c.in_ok-text.ensures))
