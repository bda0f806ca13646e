use Rattle.std.specs.Prelude.{None}
use Rattle.linegrep_cli.specs.OperandRuns.{AreWritten}
use Rattle.linegrep_cli.proofs.file_run.Run.say_all.Given as goal

abbrev pub invariant-loop-warning : goal.invariant-loop-warning
invariant-loop-warning g l =
    AreWritten g.E.Engine.step l.fn.engine l.warning-index None l.engine
