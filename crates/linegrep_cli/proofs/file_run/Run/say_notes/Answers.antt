use Rattle.std.proofs.Common.{◌<◌, length, rules}
use Rattle.linegrep_cli.specs.OperandRuns.{last_text, next_text, no_text}
use Rattle.linegrep_cli.proofs.file_run.Run.say_notes.Goals as goal

pub loop-note-init : goal.loop-note-init
loop-note-init g c = no_text

pub returns-in-Err : goal.returns-in-Err
returns-in-Err g c =
    let within : c.loop-note.note-index < length c.args.notes.now = search rules in
    last_text _ _ c.in-Err.error within c.loop-note.invariant c.in-Err.ensures

pub loop-note-preserved : goal.loop-note-preserved
loop-note-preserved g c = next_text _ c.loop-note.invariant c.in-Ok.ensures
