use Rattle.std.proofs.Common.{◌≡◌, ◌+◌, ◌-◌, arith, sym, subst, ⊎_elim}
use Rattle.std.proofs.lemmas.Bool.{cases_lt}
use Rattle.grep_lines.proofs.LinePositionLemmas.{IsBack, IsBack-first, IsBack-more, IsBack-zero}
use Rattle.grep_lines.proofs.preceding_lines.preceding_by_pos.Goals as goal

pub loop-left-init : goal.loop-left-init
loop-left-init c =
    let start = c.start_before-start in
    let none : 0 ≡ c.args.count - c.args.count = omega arith in
    record {
      few = omega arith;
      within = ⊎_elim (λ some. omega (arith, start.ensures.below some))
          (λ over. omega (arith, start.ensures.zero (omega arith))) (cases_lt 0 c.args.pos);
      closed = λ more. ⊎_elim (λ some. (start.ensures.last some).closed more)
          (λ over. absurd (omega (arith, start.ensures.zero (omega arith))))
          (cases_lt 0 c.args.pos);
      back = subst (IsBack c.args.terminator c.args.bytes.now c.args.pos start.result) none
          (IsBack-first c.args.terminator c.args.bytes.now c.args.pos start.result
          start.ensures.zero start.ensures.last);
    }

pub loop-left-preserved : goal.loop-left-preserved
loop-left-preserved c =
    let start = c.start_before-start-in-loop-left in
    let one : (c.args.count - c.loop-left.left) + 1 ≡ c.args.count - (c.loop-left.left - 1) =
    omega arith in
    record {
      few = omega arith;
      within = omega (arith, start.ensures.below c.if-start-gt0.true);
      closed = (start.ensures.last c.if-start-gt0.true).closed;
      back = subst (IsBack c.args.terminator c.args.bytes.now c.args.pos start.result) one
          (IsBack-more c.args.terminator c.args.bytes.now c.args.pos c.loop-left.start start.result
          (c.args.count - c.loop-left.left)
          c.if-start-gt0.true (start.ensures.last c.if-start-gt0.true) c.loop-left.invariant.back);
    }

pub returns-else-start-gt0-clause-line : goal.returns-else-start-gt0-clause-line
returns-else-start-gt0-clause-line c = λ i inside low high.
    let back = IsBack-zero c.args.terminator c.args.bytes.now c.args.pos c.loop-left.start
    (c.args.count - c.loop-left.left)
    c.args.count (omega arith) (omega arith) c.loop-left.invariant.back in
    sym (back.line i inside low high).begins

pub returns-else-start-gt0-clause-from_start : goal.returns-else-start-gt0-clause-from_start
returns-else-start-gt0-clause-from_start c = λ i here.
    let back = IsBack-zero c.args.terminator c.args.bytes.now c.args.pos c.loop-left.start
    (c.args.count - c.loop-left.left)
    c.args.count (omega arith) (omega arith) c.loop-left.invariant.back in
    back.from_start i here

pub returns-after-loop-left-clause-line : goal.returns-after-loop-left-clause-line
returns-after-loop-left-clause-line c = λ i inside low high.
    let all : c.args.count - c.loop-left.left ≡ c.args.count = omega arith in
    let back = subst (IsBack c.args.terminator c.args.bytes.now c.args.pos c.loop-left.start) all
    c.loop-left.invariant.back in
    sym (back.line i inside low high).begins
