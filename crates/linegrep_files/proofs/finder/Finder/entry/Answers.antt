use Rattle.std.proofs.Common.{refl}
use Rattle.linegrep_files.specs.Folders.{of_unread}
use Rattle.linegrep_files.proofs.finder.Finder.entry.Goals as goal

pub returns-in-Err-clause-at : goal.returns-in-Err-clause-at
returns-in-Err-clause-at g c =
    of_unread c.args.path c.in-Err.error (rw (c.in-Err.is, c.as_str.ensures.value) at c.look.ensures) refl
