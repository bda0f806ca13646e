use Rattle.std.proofs.Common.{◌≡◌, ◌∙◌, Some, true, arith, subst, sym, take}
use Rattle.std.proofs.lemmas.Bool.{false≢true}
use Rattle.std.specs.Global.{Global}
use Rattle.std.specs.Prelude.{Vec}
use Rattle.grep_matcher.specs.declared.byte_set.ByteSet.{ByteSet}
use Rattle.grep_regex.specs.Choices.{items_of}
use Rattle.grep_regex.specs.Classes.{decision}
use Rattle.grep_regex.specs.Decisions.{IsPassed}
use Rattle.grep_regex.proofs.ChoiceLemmas.{any-true, next-choice, passed-more}
use Rattle.grep_regex.proofs.classes.decide_any.Goals as goal
use Rattle.grep_regex.proofs.classes.decide_any.Goals.{in-Passes, in-Unknown}

pub returns-in-Matches : goal.returns-in-Matches
returns-in-Matches c =
    let sets = c.index-choices-i.result in
    let hay = c.args.haystack.now in
    any-true c.args.choices.now c.loop-i.i sets hay c.args.at c.loop-i-test.true
    (subst (λ (s : Vec ByteSet Global). decision s.items hay c.args.at ≡ Some true) c.index-choices-i.is
    (subst (λ s. decision s hay c.args.at ≡ Some true) c.deref.ensures.value c.in-Matches.ensures))

pub loop-i-preserved : goal.loop-i-preserved
loop-i-preserved c =
    let choices = c.args.choices.now in
    let sets = c.index-choices-i.result in
    let hay = c.args.haystack.now in
    let before = c.loop-i.invariant in
    let next = next-choice choices c.loop-i.i sets sets c.loop-i-test.true (sym c.index-choices-i.is) in
    elim c.match-decide.branch [
      | in-Passes w ↦ record {
        later = omega (arith, before.later, w.next-is, w.min-next.ensures, w.in-Passes.ensures.0);
        within = omega (arith, before.within, w.next-is, w.min-next.ensures);
        passed = λ known. rw next (passed-more (items_of (take c.loop-i.i choices)) sets.items hay c.args.at
            c.loop-i.next w.in-Passes.later c.match-decide.next (before.passed (sym w.is_known-is ∙ known))
            (subst (λ s. IsPassed (decision s hay) c.args.at w.in-Passes.later) c.deref.ensures.value
            w.in-Passes.ensures.1)
            (omega (arith, w.next-is, w.min-next.ensures)) (omega (arith, w.next-is, w.min-next.ensures)));
      }
      | in-Unknown w ↦ record {
        later = omega (arith, before.later, w.next-is);
        within = omega (arith, before.within, w.next-is);
        passed = λ known. absurd (false≢true (sym w.is_known-is ∙ known));
      }
    ]
