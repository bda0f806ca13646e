use Rattle.std.proofs.Common.{◌∷◌, [], map, take, refl, IfSome, subst, sym}
use Rattle.std.proofs.lemmas.List.{map-append, take_all}
use Rattle.std.specs.Global.{Global}
use Rattle.std.specs.Prelude.{Vec}
use Rattle.regex_hir.specs.Meaning.{meaning}
use Rattle.grep_matcher.specs.declared.byte_set.ByteSet.{ByteSet}
use Rattle.grep_regex.specs.Choices.{items_of}
use Rattle.grep_regex.specs.Classes.{AreRuns, IsRun}
use Rattle.grep_regex.proofs.RunLemmas.{next-part}
use Rattle.grep_regex.proofs.SizeLemmas.{runs-more}
use Rattle.grep_regex.proofs.class_tree.runs_of.Goals as goal

pub loop-i-preserved : goal.loop-i-preserved
loop-i-preserved c =
    let subs = c.args.subs.now in
    let sub = c.index-subs-i.result in
    let front = map meaning (take c.loop-i.i subs) in
    let choices = c.loop-i.choices.items in
    rw (next-part subs c.loop-i.i sub sub c.loop-i-test.true (sym c.index-subs-i.is), c.in_ok-push.ensures.items)
    (rw (map-append (λ (s : Vec ByteSet Global). s.items) choices (c.in-Some.sets ∷ []))
    (runs-more front (items_of choices) (meaning sub) c.in-Some.sets.items c.loop-i.invariant
    (subst (λ o. IfSome o (λ sets. IsRun (meaning sub) sets.items)) c.in-Some.is c.in_ok-sets.ensures)))

pub returns : goal.returns
returns c = record {
  res = map meaning c.args.subs.now;
  is = refl;
  runs = subst (λ subs. AreRuns (map meaning subs) (items_of c.loop-i.choices.items))
      (take_all c.loop-i.i c.args.subs.now c.loop-i-test.false) c.loop-i.invariant;
}
