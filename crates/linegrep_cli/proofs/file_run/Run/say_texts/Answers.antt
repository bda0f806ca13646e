use Rattle.std.proofs.Common.{◌<◌, length, rules}
use Rattle.linegrep_cli.specs.OperandRuns.{last_text, next_text, no_text}
use Rattle.linegrep_cli.proofs.file_run.Run.say_texts.Goals as goal

pub loop-text-init : goal.loop-text-init
loop-text-init g c = no_text

pub returns-in-Err : goal.returns-in-Err
returns-in-Err g c =
    let within : c.loop-text.text-index < length c.args.texts.now = search rules in
    last_text _ _ c.in-Err.error within c.loop-text.invariant c.in-Err.ensures

pub loop-text-preserved : goal.loop-text-preserved
loop-text-preserved g c = next_text _ c.loop-text.invariant c.in-Ok.ensures
