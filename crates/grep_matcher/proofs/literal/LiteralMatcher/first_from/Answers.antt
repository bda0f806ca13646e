use Rattle.std.proofs.Common.{◌≡◌, ◌+◌, ◌∙◌, Some, None, ap, arith, length, subst, sym}
use Rattle.std.specs.Prelude.{slice_range}
use Rattle.memchr.specs.Find.{FindsNeedle, OccursAt}
use Rattle.grep_matcher.specs.Probes.{near_end, position_of}
use Rattle.grep_matcher.proofs.FromLemmas.{finds-after}
use Rattle.grep_matcher.proofs.PartLemmas.{found-later, passed-part}
use Rattle.grep_matcher.proofs.literal.LiteralMatcher.first_from.Goals as goal
use Rattle.grep_matcher.proofs.literal.LiteralMatcher.first_from.Goals.{After-find_nearest}

-- where the near part ends
end-is : (c : After-find_nearest) → near_end c.args.haystack.now c.args.self.now ≡ c.near_end-end.result
end-is c = sym (c.near_end-end.ensures
    ∙ ap (near_end c.args.haystack.now) (c.needle.ensures ∙ c.self.view_is))

-- what is found in that part from its start on
in-part : (c : After-find_nearest) → FindsNeedle (slice_range c.args.haystack.now 0 c.near_end-end.result)
    c.args.self.now 0 c.find_nearest.result
in-part c =
    let part = slice_range c.args.haystack.now 0 c.near_end-end.result in
    let nearest = rw (end-is c) at c.requires in
    finds-after (OccursAt part c.args.self.now) 0 (position_of c.args.nearest) (length part + 1)
    c.find_nearest.result nearest.low nearest.passed (rw c.self.view_is at c.find_nearest.ensures)

pub returns-in-Some : goal.returns-in-Some
returns-in-Some c =
    let same : 0 + c.in-Some.position ≡ c.in-Some.position = omega arith in
    rw same at (found-later c.args.haystack.now c.args.self.now 0 c.near_end-end.result
    (omega arith) (omega (arith, c.near_end-end.ensures)) (λ k low below. absurd (omega arith))
    c.in-Some.position (rw c.in-Some.is at (in-part (goal.at.returns-in-Some c).After-find_nearest)))

pub returns-in-None : goal.returns-in-None
returns-in-None c =
    passed-part c.args.haystack.now c.args.self.now 0 c.near_end-end.result
    (omega arith) (omega (arith, c.near_end-end.ensures)) (λ k low below. absurd (omega arith))
    (rw c.in-None.is at (in-part (goal.at.returns-in-None c).After-find_nearest))
    (length c.args.haystack.now + 1) (λ k low fits. omega (arith, fits, c.if-end-haystack.true))

pub first_after-requires-clause-passed : goal.first_after-requires-clause-passed
first_after-requires-clause-passed c =
    passed-part c.args.haystack.now c.args.self.now 0 c.near_end-end.result
    (omega arith) (omega (arith, c.near_end-end.ensures)) (λ k low below. absurd (omega arith))
    (rw c.in-None.is at (in-part (goal.at.first_after-requires-clause-passed c).After-find_nearest)) 512
    (λ k low fits. omega (
      arith,
      low,
      fits,
      c.near_end-end.ensures,
      c.if-end-haystack.false,
      ap length (c.needle.ensures ∙ c.self.view_is),
    ))
