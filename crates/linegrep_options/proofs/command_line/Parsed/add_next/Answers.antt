use Rattle.linegrep_options.specs.CommandLines.{next_reading, reading_of, value_reading}
use Rattle.linegrep_options.specs.ParsedWords.{later_of, texts}
use Rattle.linegrep_options.proofs.ReadingLemmas.{next-first, step-same}
use Rattle.linegrep_options.proofs.command_line.Parsed.add_next.Goals as goal

pub returns-in-Some-clause-step : goal.returns-in-Some-clause-step
returns-in-Some-clause-step c =
    let later = c.in-Some.later.now in
    step-same c.args.self.now c.add_value.new.self
    (next_reading c.args.row (later_of (texts c.args.rest.now)))
    (value_reading c.args.row c.deref.result.now (reading_of (texts later))) c.add_value.result
    (rw c.deref.ensures.value
    (next-first c.args.row c.args.rest.now later c.in-Some.value.now c.in-Some.ensures.cases.0))
    c.add_value.ensures.step
