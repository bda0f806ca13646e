use Rattle.std.proofs.Common.{◌∙◌, ap, rules}
use Rattle.linegrep_files.specs.Folders.{of_escaped, of_unescaped}
use Rattle.linegrep_files.specs.Paths.{joined}
use Rattle.linegrep_files.proofs.finder.Finder.find_escaped.Goals as goal

pub returns-in-None-clause-found : goal.returns-in-None-clause-found
returns-in-None-clause-found g c = of_escaped _ _ c.requires
    (rw c.in-None.is at c.in_ok-name_reason.ensures.reason) (search rules)
    (c.in_ok-path-in-None.ensures
    ∙ ap (joined c.args.folder.now) (c.as_str.ensures.value ∙ c.in_ok-word-in-None.ensures))

pub returns-in-Some-clause-found : goal.returns-in-Some-clause-found
returns-in-Some-clause-found g c =
    of_unescaped c.in-Some.reason c.requires (rw c.in-Some.is at c.in_ok-name_reason.ensures.reason)
