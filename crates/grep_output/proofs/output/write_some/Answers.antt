use Rattle.std.proofs.Common.{refl, arith}
use Rattle.grep_output.proofs.OutputLemmas.{trying-none, trying-more, repeated}
use Rattle.grep_output.proofs.output.write_some.Goals as goal

pub loop-init : goal.loop-init
loop-init g c = record {
  bound = c.write-written.ensures.bound;
  calls = trying-none g.W.Output.step c.args.writer.now c.write-written.new.self _ c.write-written.ensures.step;
}

pub loop-preserved : goal.loop-preserved
loop-preserved g c = record {
  bound = c.write-written-in-loop.ensures.bound;
  calls = trying-more g.W.Output.step c.loop.counter c.args.writer.now c.loop.writer c.write-written-in-loop.new.self
      c.loop.written c.args.buffer.now _ (c.if-not-is_interrupted.ensures.0 refl) c.loop.invariant.calls
      c.write-written-in-loop.ensures.step;
}

pub returns-after-loop-clause-calls : goal.returns-after-loop-clause-calls
returns-after-loop-clause-calls g c =
    repeated g.W.Output.step c.loop.counter c.args.writer.now c.loop.writer _ c.loop.invariant.calls
    (λ _. let ended = c.loop-test.false in omega arith)
