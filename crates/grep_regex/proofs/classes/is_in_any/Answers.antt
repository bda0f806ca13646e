use Rattle.std.proofs.Common.{◌≡◌, ◌∙◌, Bool, List, false, subst, sym, All}
use Rattle.std.proofs.lemmas.List.{take_all}
use Rattle.std.proofs.lemmas.List.Elements.{All-more}
use Rattle.grep_matcher.specs.ByteSets.{holds}
use Rattle.grep_regex.proofs.classes.is_in_any.Goals as goal

pub loop-i-preserved : goal.loop-i-preserved
loop-i-preserved c =
    let lacks = λ (set : List Bool). holds set c.args.byte ≡ false in
    All-more lacks c.args.sets.now c.loop-i.i c.index-sets-i.result c.loop-i-test.true c.loop-i.invariant
    (subst lacks c.index-sets-i.is (sym c.contains.ensures ∙ c.if-contains.false))

pub returns : goal.returns
returns c = λ _. subst (All (λ set. holds set c.args.byte ≡ false))
    (take_all c.loop-i.i c.args.sets.now c.loop-i-test.false) c.loop-i.invariant
