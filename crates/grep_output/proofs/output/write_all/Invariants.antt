use Rattle.std.proofs.Common.{length}
use Rattle.grep_output.proofs.OutputLemmas.{IsWriting}
use Rattle.grep_output.proofs.output.write_all.Given as goal

abbrev pub invariant-loop-rest : goal.invariant-loop-rest
invariant-loop-rest g l = IsWriting g.W.Output.step l.fn.writer l.writer l.buffer l.rest

abbrev pub decreases-loop-rest : goal.decreases-loop-rest
decreases-loop-rest g l = length l.rest
