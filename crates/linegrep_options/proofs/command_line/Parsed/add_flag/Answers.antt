use Rattle.std.proofs.Common.{None}
use Rattle.linegrep_options.specs.CommandLines.{reading_of}
use Rattle.linegrep_options.specs.ParsedWords.{texts}
use Rattle.linegrep_options.proofs.ReadingLemmas.{added-use}
use Rattle.linegrep_options.proofs.command_line.Parsed.add_flag.Goals as goal

pub returns-clause-step : goal.returns-clause-step
returns-clause-step c =
    let (grown, same) = c.in_ok-push.ensures in
    added-use c.args.self.now c.push.new.self c.args.row.id None (reading_of (texts c.args.rest.now)) grown same
