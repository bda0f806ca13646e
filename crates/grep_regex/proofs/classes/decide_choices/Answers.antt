use Rattle.std.proofs.Common.{subst, sym}
use Rattle.grep_regex.specs.Classes.{decision}
use Rattle.grep_regex.specs.Decisions.{IsVerdict}
use Rattle.grep_regex.proofs.ChoiceLemmas.{one-verdict}
use Rattle.grep_regex.proofs.classes.decide_choices.Goals as goal

pub returns-then-choices-eq1 : goal.returns-then-choices-eq1
returns-then-choices-eq1 c =
    let sets = c.index-choices-0.result in
    one-verdict c.args.choices.now sets sets c.args.haystack.now c.args.at c.decide.result c.if-choices-eq1.true
    (sym c.index-choices-0.is)
    (subst (λ s. IsVerdict (decision s c.args.haystack.now) c.args.at c.decide.result) c.deref.ensures.value
    c.decide.ensures)
