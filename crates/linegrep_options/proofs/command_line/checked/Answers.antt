use Rattle.std.proofs.Common.{sym, ◌∙◌}
use Rattle.linegrep_options.proofs.ReadingLemmas.{fitting-text, refused-bytes, refused-text}
use Rattle.linegrep_options.proofs.command_line.checked.Goals as goal

pub returns-in_default-clause-refused : goal.returns-in_default-clause-refused
returns-in_default-clause-refused c =
    refused-bytes c.args.row c.args.value.now c.in_default.ensures.cases.0

pub returns-then-is_value-clause-fits : goal.returns-then-is_value-clause-fits
returns-then-is_value-clause-fits c =
    let (is, utf8) = c.in-Ok.ensures.cases in
    fitting-text c.args.row c.args.value.now utf8
    (rw is at (sym c.is_value.ensures ∙ c.if-is_value.true))

pub returns-else-is_value-clause-refused : goal.returns-else-is_value-clause-refused
returns-else-is_value-clause-refused c =
    let (is, utf8) = c.in-Ok.ensures.cases in
    refused-text c.args.row c.args.value.now utf8
    (rw is at (sym c.is_value.ensures ∙ c.if-is_value.false))
