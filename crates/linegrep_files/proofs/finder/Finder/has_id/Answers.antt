use Rattle.linegrep_files.specs.Folders.{of_found, of_unseen}
use Rattle.linegrep_files.proofs.finder.Finder.has_id.Goals as goal

pub returns-in-Ok : goal.returns-in-Ok
returns-in-Ok g c = rw c.is.ensures (of_found c.in-Ok.found (rw c.in-Ok.is at c.look.ensures))

pub returns-in-Err : goal.returns-in-Err
returns-in-Err g c = of_unseen c.in-Err.field-0 (rw c.in-Err.is at c.look.ensures)
