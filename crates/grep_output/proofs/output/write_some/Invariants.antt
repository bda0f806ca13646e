use Rattle.std.specs.Io.{WritesAtMost}
use Rattle.grep_output.specs.Outputs.{writes}
use Rattle.grep_output.proofs.OutputLemmas.{IsTrying}
use Rattle.grep_output.proofs.output.write_some.Given as goal

abbrev pub invariant-loop : goal.invariant-loop
invariant-loop g l = record {
  bound : WritesAtMost l.written l.buffer;
  calls : IsTrying g.W.Output.step l.counter l.fn.writer (writes l.buffer l.written) l.writer;
}
