use Rattle.linegrep_options.specs.CommandLines.{reading_of}
use Rattle.linegrep_options.specs.ParsedWords.{texts}
use Rattle.linegrep_options.proofs.ReadingLemmas.{added-value}
use Rattle.linegrep_options.proofs.command_line.Parsed.add_value.Goals as goal

pub returns-in_ok-push-in-Ok-clause-step : goal.returns-in_ok-push-in-Ok-clause-step
returns-in_ok-push-in-Ok-clause-step c =
    let (grown, same) = c.in_ok-push-in-Ok.ensures in
    added-value c.args.self.now c.push.new.self c.args.row c.in-Ok.text c.args.value.now
    (reading_of (texts c.args.rest.now)) c.in-Ok.ensures.text c.in-Ok.ensures.fits grown same
