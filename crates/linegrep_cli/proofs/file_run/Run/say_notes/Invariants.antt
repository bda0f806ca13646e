use Rattle.std.specs.Prelude.{None}
use Rattle.linegrep_cli.specs.OperandRuns.{AreWritten}
use Rattle.linegrep_cli.proofs.file_run.Run.say_notes.Given as goal

abbrev pub invariant-loop-note : goal.invariant-loop-note
invariant-loop-note g l = AreWritten g.E.Engine.step l.fn.engine l.note-index None l.engine
