use Rattle.std.proofs.Common.{◌+◌, ◌∙◌, take, drop, refl, inr, sym, arith}
use Rattle.std.proofs.lemmas.Bool.{false≢true}
use Rattle.grep_ignore.proofs.DecisionLemmas.{around, none-further}
use Rattle.grep_ignore.proofs.rules.Rules.leaves_out.Goals as goal

pub loop-at-preserved : goal.loop-at-preserved
loop-at-preserved c = record {
  within = omega (arith, c.loop-at-test.true);
  none = none-further c.args.self.now c.args.path.now c.loop-at.at c.loop-at.invariant.none
      (λ both. false≢true (sym c.in-Ok-false.field-0-test ∙ c.in-Ok-false.ensures.1 both));
}

pub returns-in-Ok-true : goal.returns-in-Ok-true
returns-in-Ok-true c = (
  (λ is. inr (
    take c.loop-at.at c.args.path.now,
    drop (c.loop-at.at + 1) c.args.path.now,
    around c.args.path.now c.loop-at.at c.loop-at-test.true
        (c.in-Ok-true.ensures.0 c.in-Ok-true.field-0-test).0,
    (c.in-Ok-true.ensures.0 c.in-Ok-true.field-0-test).1,
  )),
  (λ out. refl),
)
