use Rattle.std.proofs.Common.{subst}
use Rattle.std.specs.Prelude.{Some, codes}
use Rattle.linegrep_files.specs.GitFiles.{IsTextRead, of_named, of_unnamed}
use Rattle.linegrep_files.specs.Paths.{joined}
use Rattle.linegrep_files.proofs.git_files.named_folder.Goals as goal

pub returns-in_ok-at-in-Some : goal.returns-in_ok-at-in-Some
returns-in_ok-at-in-Some g c =
    let (rest, is, trimmed) = c.in-Some.ensures in
    of_named rest c.in-Some.named.now
    (subst (λ t. IsTextRead (g.S.Folders.facts c.args.system.now).reads (joined c.args.folder.now (codes ".git")) (Some t))
    is c.requires) trimmed
    (rw (c.as_str.ensures.value, c.in_ok-named-in-Some.ensures) at c.in_ok-at-in-Some.ensures)

pub returns-in-None : goal.returns-in-None
returns-in-None g c = of_unnamed c.args.text.now c.requires c.in-None.ensures
