use Rattle.std.proofs.Common.{◌∙◌, sym}
use Rattle.linegrep_cli.specs.ConfigFiles.{of_contents, of_empty, of_unread}
use Rattle.linegrep_cli.proofs.config.read_file.Goals as goal

pub returns-then-is_empty : goal.returns-then-is_empty
returns-then-is_empty g c = of_empty c.args.path c.requires
    (rw c.as_str.ensures.value at (sym c.is_empty.ensures ∙ c.if-is_empty.true))

pub returns-in-Ok : goal.returns-in-Ok
returns-in-Ok g c = of_contents _ (
  c.requires,
  rw c.as_str.ensures.value at (sym c.is_empty.ensures ∙ c.if-is_empty.false),
) (rw (c.in-Ok.is, c.as_str-2.ensures.value) at c.read.ensures)

pub returns : goal.returns
returns g c =
    let (reason, is) = c.in_ok-text-in-Err-2.ensures in
    of_unread c.args.path c.in_ok-text-in-Err-2.text c.in-Err.error reason (
      c.requires,
      rw c.as_str.ensures.value at (sym c.is_empty.ensures ∙ c.if-is_empty.false),
    ) (rw (c.in-Err.is, c.as_str-2.ensures.value) at c.read.ensures)
    (rw c.if-is_out_of_memory.false at c.is_out_of_memory.ensures)
    (rw c.as_str-in-Err-2.ensures.value at is)
