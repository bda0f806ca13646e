use Rattle.std.proofs.Common.{◌≡◌, false, ◌∷◌, [], refl, inl, inr, arith, rules}
use Rattle.grep_ignore.specs.Classes.{begins_with}
use Rattle.grep_ignore.proofs.ClassLemmas.{ranges-more}
use Rattle.grep_ignore.proofs.class.read_members.Goals as goal

pub loop-set-init : goal.loop-set-init
loop-set-init c = (
  c.in-Some.ensures.0 ∷ [],
  omega arith,
  (c.args.text.now, refl, inl refl, c.in-Some.ensures.1),
  c.in-Some.ensures.2,
)

pub loop-set-preserved : goal.loop-set-preserved
loop-set-preserved c =
    let goes-on : begins_with 93 c.loop-set.left.now ≡ false = search rules in (
      c.in-Some-take_member.ensures.0 ∷ c.loop-set.invariant.0,
      omega arith,
      (c.loop-set.left.now, c.loop-set.invariant.2, inr goes-on, c.in-Some-take_member.ensures.1),
      ranges-more _ _ _ _ _ _ c.loop-set.invariant.3 c.in-Some-take_member.ensures.2,
    )
