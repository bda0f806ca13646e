use Rattle.std.proofs.Common.{◌+◌, ◌-◌, ◌<◌, ◌^◌, arith, length}
use Rattle.memchr.proofs.lemmas.FindLemmas.{Nowhere-then}
use Rattle.memchr.specs.Find.{OccursAt}
use Rattle.std.specs.Int.{trailing_zeros, w64}
use Rattle.grep_matcher.proofs.FromLemmas.{lowest-set, window-first, window-none}
use Rattle.grep_matcher.proofs.short.nearest_from.Goals as goal

pub windows-preserved : goal.windows-preserved
windows-preserved c =
    let marks = rw (c.new-bytes.ensures.haystack, c.new-bytes.ensures.literal) at c.marks_from-marks.ensures.covers in
    record {
      low = omega (arith, c.windows.invariant.low);
      near = omega (arith, c.windows-test.true);
      passed = Nowhere-then c.windows.invariant.passed
          (window-none (OccursAt c.args.haystack.now c.args.literal.now) c.windows.from (c.windows.from + 32)
          c.marks_from-marks.result marks c.if-marks-ne0.false);
    }

pub returns-then-marks-ne0 : goal.returns-then-marks-ne0
returns-then-marks-ne0 c =
    let occurs = OccursAt c.args.haystack.now c.args.literal.now in
    let marks = c.marks_from-marks in
    let covers = rw (c.new-bytes.ensures.haystack, c.new-bytes.ensures.literal) at marks.ensures.covers in
    let first = trailing_zeros w64 marks.result in
    let some : 0 < marks.result = omega (arith, c.if-marks-ne0.true) in
    let fits : marks.result < 2 ^ 64 = omega (arith, marks.type_inv) in
    let set = lowest-set marks.result some fits in
    record {
      low = omega (arith, c.windows.invariant.low);
      passed = Nowhere-then c.windows.invariant.passed
          (window-first occurs c.windows.from (c.windows.from + 32) marks.result covers some fits
          (c.windows.from + first) (omega (arith, marks.ensures.few first set)) (omega arith));
      known = (rw (
        c.new-bytes.ensures.haystack,
        c.new-bytes.ensures.literal,
        c.new-bytes.ensures.first,
        c.new-bytes.ensures.second,
        c.new-bytes.ensures.third,
      ) at marks.ensures.exact) first set;
    }

-- the last position of the last vector, and one more
pub returns-then-left-eq0 : goal.returns-then-left-eq0
returns-then-left-eq0 c =
    let marks = rw (c.new-bytes.ensures.haystack, c.new-bytes.ensures.literal) at c.marks_from-left.ensures.covers in
    let end = (length c.args.haystack.now - length c.args.literal.now) - 31 + 32 in
    record {
      low = omega (arith, c.requires);
      passed = λ k low below occurs. Nowhere-then c.windows.invariant.passed
          (window-none (OccursAt c.args.haystack.now c.args.literal.now) c.windows.from end c.marks_from-left.result marks
          c.if-left-eq0.true) k low
          (omega (arith, occurs.fits, c.if-haystack-len.false)) occurs;
      known = omega arith;
    }

pub returns : goal.returns
returns c =
    let occurs = OccursAt c.args.haystack.now c.args.literal.now in
    let left = c.marks_from-left in
    let covers = rw (c.new-bytes.ensures.haystack, c.new-bytes.ensures.literal) at left.ensures.covers in
    let end = (length c.args.haystack.now - length c.args.literal.now) - 31 + 32 in
    let first = trailing_zeros w64 left.result in
    let some : 0 < left.result = omega (arith, c.if-left-eq0.false) in
    let fits : left.result < 2 ^ 64 = omega (arith, left.type_inv) in
    let set = lowest-set left.result some fits in
    record {
      low = omega (arith, c.windows.invariant.low);
      passed = Nowhere-then c.windows.invariant.passed
          (window-first occurs c.windows.from end left.result covers some fits
          (c.windows.from + first) (omega (arith, left.ensures.few first set)) (omega arith));
      known = (rw (
        c.new-bytes.ensures.haystack,
        c.new-bytes.ensures.literal,
        c.new-bytes.ensures.first,
        c.new-bytes.ensures.second,
        c.new-bytes.ensures.third,
      ) at left.ensures.exact) first set;
    }
