use Rattle.std.specs.Prelude.{None}
use Rattle.linegrep_cli.specs.OperandRuns.{AreWritten}
use Rattle.linegrep_cli.proofs.file_run.Run.say_texts.Given as goal

abbrev pub invariant-loop-text : goal.invariant-loop-text
invariant-loop-text g l = AreWritten g.E.Engine.step l.fn.engine l.text-index None l.engine
