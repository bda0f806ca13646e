use Rattle.std.proofs.Common.{arith}
use Rattle.memchr.proofs.lemmas.FindLemmas.{Nowhere-then}
use Rattle.grep_matcher.proofs.probe.skip.Goals as goal

pub loop-position-preserved : goal.loop-position-preserved
loop-position-preserved g c = record {
  low = omega (arith, c.loop-position.invariant.low);
  within = omega (arith, c.loop-position-test.true, c.if-haystack-literal.false);
  passed = Nowhere-then c.loop-position.invariant.passed
      (rw c.requires.haystack at rw c.requires.literal at c.is_quiet.ensures c.if-is_quiet.true);
}
