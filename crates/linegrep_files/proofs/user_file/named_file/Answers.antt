use Rattle.std.proofs.Common.{◌∙◌, sym}
use Rattle.linegrep_files.specs.UserFiles.{of_nowhere, of_settings, of_unread_settings}
use Rattle.linegrep_files.proofs.user_file.named_file.Goals as goal

pub returns-then-is_empty : goal.returns-then-is_empty
returns-then-is_empty g c = of_nowhere (rw c.as_bytes.ensures.value at (sym c.is_empty.ensures ∙ c.if-is_empty.true))

pub returns-in-Ok : goal.returns-in-Ok
returns-in-Ok g c =
    of_settings c.in-Ok.contents
    (rw c.as_bytes.ensures.value at (sym c.is_empty.ensures ∙ c.if-is_empty.false))
    (rw (c.in-Ok.is, c.as_str.ensures.value, c.in_ok-path.ensures) at c.read.ensures)
    (rw c.as_slice.ensures.value at c.in_ok-path-in-Ok.ensures)

pub returns : goal.returns
returns g c =
    of_unread_settings c.in-Err-2.field-0
    (rw c.as_bytes.ensures.value at (sym c.is_empty.ensures ∙ c.if-is_empty.false))
    (rw (c.in-Err-2.is, c.as_str.ensures.value, c.in_ok-path.ensures) at c.read.ensures)
