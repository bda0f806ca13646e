use Rattle.linegrep_files.specs.UserFiles.{of_unread, of_unset, of_value}
use Rattle.linegrep_files.proofs.user_file.variable.Goals as goal

pub returns-in-Ok-Some : goal.returns-in-Ok-Some
returns-in-Ok-Some g c = of_value c.in-Ok-Some.value
    (rw (c.in-Ok-Some.is, c.in-Ok-Some.field-0-is) at c.variable.ensures)

pub returns-in-Ok-None : goal.returns-in-Ok-None
returns-in-Ok-None g c = rw c.new.ensures.bytes
    (of_unset (rw (c.in-Ok-None.is, c.in-Ok-None.field-0-is) at c.variable.ensures))

pub returns-in-Err-2 : goal.returns-in-Err-2
returns-in-Err-2 g c = rw c.new-in-Err-2.ensures.bytes
    (of_unread c.in-Err-2.field-0 (rw c.in-Err-2.is at c.variable.ensures))
