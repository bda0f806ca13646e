use Rattle.std.proofs.Common.{◌≡◌, None, Option, Some, arith, refl, rules}
use Rattle.std.specs.Prelude.{IfSome}
use Rattle.grep_walk.proofs.config.Config.look_ahead.Given.{Over}
use Rattle.grep_walk.proofs.config.Config.look_ahead.Goals as goal
use Rattle.grep_walk.proofs.config.Config.look_ahead.Goals.{Joined-then-start-ahead}
use Rattle.grep_walk.proofs.config.Config.look_ahead.Goals.{then-start-ahead-via-then-start-ahead}
use Rattle.grep_walk.proofs.config.Config.look_ahead.Goals.{then-start-ahead-via-else-start-ahead+then-start-window}
use Rattle.grep_walk.proofs.config.Config.look_ahead.Goals.{
  then-start-ahead-via-else-start-ahead+else-start-window+then-not-asks_ahead,
}

-- there is none of what can't be
none-of : {E : Type 0} {P : E → Type 0} (o : Option E) → IfSome o P → ((e : E) → P e → ⊥) → o ≡ None
none-of None holds never = refl
none-of (Some e) holds never = absurd (never e holds)

-- where the matcher isn't asked, it didn't fail before
unfailed : (g : Over) (c : Joined-then-start-ahead g) → c.args.failure.now ≡ None
unfailed g c = none-of c.args.failure.now c.requires.failed (λ error at. elim c.then-start-ahead.branch [
  | then-start-ahead-via-then-start-ahead w ↦ omega (arith, w.if-start-ahead.true, at.unknown)
  | then-start-ahead-via-else-start-ahead+then-start-window w ↦ omega (arith, w.if-start-window.true, at.inside)
  | then-start-ahead-via-else-start-ahead+else-start-window+then-not-asks_ahead w ↦
      w.asks_ahead.ensures.no (search rules) _ c.requires.questions at.may_ask
])

pub returns-then-start-ahead-clause-unfailed : goal.returns-then-start-ahead-clause-unfailed
returns-then-start-ahead-clause-unfailed g c = unfailed g c

pub returns-then-start-ahead-clause-failed : goal.returns-then-start-ahead-clause-failed
returns-then-start-ahead-clause-failed g c = rw (unfailed g c) tt
