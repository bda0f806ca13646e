use Rattle.linegrep_options.specs.CommandLines.{reading_of}
use Rattle.linegrep_options.specs.ParsedWords.{texts}
use Rattle.linegrep_options.proofs.ReadingLemmas.{added-operand}
use Rattle.linegrep_options.proofs.command_line.Parsed.add_operand.Goals as goal

pub returns-clause-step : goal.returns-clause-step
returns-clause-step c =
    let (grown, same) = c.in_ok-push_operand.ensures in
    added-operand c.args.self.now c.push_operand.new.self c.args.word (reading_of (texts c.args.rest.now)) grown same
