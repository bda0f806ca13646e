use Rattle.std.proofs.Common.{All, subst}
use Rattle.std.proofs.lemmas.List.{take_all}
use Rattle.std.proofs.lemmas.List.Elements.{All-more}
use Rattle.std.specs.Global.{Global}
use Rattle.std.specs.Prelude.{Vec}
use Rattle.grep_matcher.specs.declared.byte_set.ByteSet.{ByteSet}
use Rattle.grep_regex.specs.Covers.{AreCovered}
use Rattle.grep_regex.proofs.covers.cover_all.Goals as goal

pub loop-i-preserved : goal.loop-i-preserved
loop-i-preserved c =
    let covered = λ (sets : Vec ByteSet Global). AreCovered c.args.cover.now sets.items in
    All-more covered c.args.choices.now c.loop-i.i c.index-choices-i.result c.loop-i-test.true c.loop-i.invariant
    (subst covered c.index-choices-i.is
    (subst (AreCovered c.args.cover.now) c.deref.ensures.value (c.are_covered.ensures c.if-not-are_covered.false)))

pub returns : goal.returns
returns c = λ _. subst (All (λ (sets : Vec ByteSet Global). AreCovered c.args.cover.now sets.items))
    (take_all c.loop-i.i c.args.choices.now c.loop-i-test.false) c.loop-i.invariant
