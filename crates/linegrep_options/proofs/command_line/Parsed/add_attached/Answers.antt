use Rattle.std.proofs.Common.{sym, ◌∙◌}
use Rattle.linegrep_options.specs.CommandLines.{attached_reading, value_reading}
use Rattle.linegrep_options.specs.ParsedWords.{later_of, texts}
use Rattle.linegrep_options.proofs.ReadingLemmas.{attached-text, step-same}
use Rattle.linegrep_options.proofs.command_line.Parsed.add_attached.Goals as goal

pub returns-else-begins_with_equals-clause-step : goal.returns-else-begins_with_equals-clause-step
returns-else-begins_with_equals-clause-step c =
    let later = later_of (texts c.args.rest.now) in
    let call = c.add_value-else-begins_with_equals in
    step-same c.args.self.now call.new.self (attached_reading c.args.row c.args.text.now later)
    (value_reading c.args.row c.args.text.now later.reading) call.result
    (attached-text c.args.row c.args.text.now later (sym c.is_empty.ensures ∙ c.if-is_empty.false)
    (sym c.begins_with_equals.ensures ∙ c.if-begins_with_equals.false))
    call.ensures.step
