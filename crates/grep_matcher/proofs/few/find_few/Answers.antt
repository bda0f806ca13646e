use Rattle.std.proofs.Common.{◌+◌, ◌-◌, ◌<◌, ◌^◌, ap, arith, length}
use Rattle.memchr.proofs.lemmas.FindLemmas.{Nowhere-then}
use Rattle.memchr.specs.Find.{OccursAt}
use Rattle.std.specs.Int.{trailing_zeros, w64}
use Rattle.grep_matcher.proofs.FromLemmas.{finds-after, lowest-set, window-first, window-none}
use Rattle.grep_matcher.proofs.few.find_few.Goals as goal

pub windows-preserved : goal.windows-preserved
windows-preserved c =
    let marks = rw (c.needle-literal.ensures) at c.half_marks-marks.ensures.covers in
    record {
      low = omega (arith, c.windows.invariant.low);
      near = omega (arith, c.windows-test.true);
      passed = Nowhere-then c.windows.invariant.passed
          (window-none (OccursAt c.args.haystack.now c.args.finder.now) c.windows.from (c.windows.from + 16)
          c.half_marks-marks.result marks c.if-marks-ne0.false);
    }

pub find_marked-requires : goal.find_marked-requires
find_marked-requires c =
    let marks = c.half_marks-marks in
    (rw (c.needle-literal.ensures) at marks.ensures.exact) (trailing_zeros w64 marks.result)
    (lowest-set marks.result (omega (arith, c.if-marks-ne0.true)) (omega (arith, marks.type_inv)))

pub returns-then-marks-ne0 : goal.returns-then-marks-ne0
returns-then-marks-ne0 c =
    let occurs = OccursAt c.args.haystack.now c.args.finder.now in
    let marks = c.half_marks-marks in
    let covers = rw (c.needle-literal.ensures) at marks.ensures.covers in
    let first = trailing_zeros w64 marks.result in
    let some : 0 < marks.result = omega (arith, c.if-marks-ne0.true) in
    let fits : marks.result < 2 ^ 64 = omega (arith, marks.type_inv) in
    let few = marks.ensures.few first (lowest-set marks.result some fits) in
    finds-after occurs c.args.start (c.windows.from + first) (length c.args.haystack.now + 1)
    c.find_marked.result (omega (arith, c.windows.invariant.low))
    (Nowhere-then c.windows.invariant.passed
    (window-first occurs c.windows.from (c.windows.from + 16) marks.result covers some fits
    (c.windows.from + first) (omega (arith, few)) (omega arith))) c.find_marked.ensures

-- the last position of the last vector, and one more
pub returns-then-left-eq0 : goal.returns-then-left-eq0
returns-then-left-eq0 c = λ k low below occurs.
    let marks = rw (c.needle-literal.ensures) at c.half_marks-left.ensures.covers in
    let size = ap length c.needle-literal.ensures in
    let end = (length c.args.haystack.now - length c.args.finder.now) - 15 + 16 in
    Nowhere-then c.windows.invariant.passed
    (window-none (OccursAt c.args.haystack.now c.args.finder.now) c.windows.from end c.half_marks-left.result marks
    c.if-left-eq0.true) k low
    (omega (arith, occurs.fits, size, c.if-haystack-len.false)) occurs

pub find_marked-requires-2 : goal.find_marked-requires-2
find_marked-requires-2 c =
    let left = c.half_marks-left in
    (rw (c.needle-literal.ensures) at left.ensures.exact) (trailing_zeros w64 left.result)
    (lowest-set left.result (omega (arith, c.if-left-eq0.false)) (omega (arith, left.type_inv)))

pub returns : goal.returns
returns c =
    let occurs = OccursAt c.args.haystack.now c.args.finder.now in
    let left = c.half_marks-left in
    let covers = rw (c.needle-literal.ensures) at left.ensures.covers in
    let size = ap length c.needle-literal.ensures in
    let end = (length c.args.haystack.now - length c.args.finder.now) - 15 + 16 in
    let first = trailing_zeros w64 left.result in
    let some : 0 < left.result = omega (arith, c.if-left-eq0.false) in
    let fits : left.result < 2 ^ 64 = omega (arith, left.type_inv) in
    let few = left.ensures.few first (lowest-set left.result some fits) in
    finds-after occurs c.args.start (c.windows.from + first) (length c.args.haystack.now + 1)
    c.find_marked-2.result (omega (arith, c.windows.invariant.low))
    (Nowhere-then c.windows.invariant.passed
    (window-first occurs c.windows.from end left.result covers some fits
    (c.windows.from + first) (omega (arith, few, size)) (omega arith))) c.find_marked-2.ensures
