use Rattle.std.proofs.Common.{◌≡◌, ◌≤◌, ◌+◌, length, arith, ap}
use Rattle.memchr.proofs.lemmas.FindLemmas.{Nowhere-then}
use Rattle.grep_matcher.proofs.PartLemmas.{found-later, passed-part}
use Rattle.grep_matcher.proofs.probe.find_by.Goals as goal

pub returns-in-Some : goal.returns-in-Some
returns-in-Some g c =
    found-later c.args.haystack.now c.args.finder.now c.skip-from.result c.part_end-end.result
    c.part_end-end.ensures.low c.part_end-end.ensures.within (Nowhere-then c.steps.invariant.passed
    (rw c.needle-literal.ensures at c.skip-from.ensures.passed)) c.in-Some.position
    c.in-Some.ensures

pub returns-in-None : goal.returns-in-None
returns-in-None g c =
    passed-part c.args.haystack.now c.args.finder.now c.skip-from.result c.part_end-end.result
    c.part_end-end.ensures.low c.part_end-end.ensures.within (Nowhere-then c.steps.invariant.passed
    (rw c.needle-literal.ensures at c.skip-from.ensures.passed)) c.in-None.ensures
    (length c.args.haystack.now + 1) (λ k low fits. omega (arith, fits, c.if-end-haystack.true))

pub steps-preserved : goal.steps-preserved
steps-preserved g c =
    let long : length c.needle-literal.result.now ≡ length c.args.finder.now =
    ap length c.needle-literal.ensures in
    let end : c.skip-from.result + 128 + length c.needle-literal.result.now ≤ c.part_end-end.result
    + 1 =
    c.part_end-end.ensures.step
    (omega (arith, c.part_end-end.ensures.within, c.if-end-haystack.false)) in
    record {
      within = omega (arith, end, c.part_end-end.ensures.within, c.if-end-haystack.false);
      passed = passed-part c.args.haystack.now c.args.finder.now c.skip-from.result
          c.part_end-end.result c.part_end-end.ensures.low c.part_end-end.ensures.within
          (Nowhere-then c.steps.invariant.passed
          (rw c.needle-literal.ensures at c.skip-from.ensures.passed))
          c.in-None-2.ensures (c.skip-from.result + 128)
          (λ k low fits. omega (arith, low, fits, end, long));
      few = omega (arith, c.steps.invariant.few, c.skip-from.ensures.low);
    }
