use Rattle.std.proofs.Common.{◌∙◌, ◌-◌, map, take, IfOk, IfSome, arith, length, subst, sym}
use Rattle.std.proofs.lemmas.Bool.{eqb-true, eqb-false}
use Rattle.std.proofs.lemmas.Option.{IfSome_then}
use Rattle.std.proofs.lemmas.Result.{IfOk-weaker}
use Rattle.regex_hir.specs.Meaning.{meaning, cat_all}
use Rattle.regex_hir.proofs.MeaningLemmas.{meaning-Repetition, meaning-Capture, meaning-Concat}
use Rattle.grep_regex.specs.Classes.{IsRun, Decides}
use Rattle.grep_regex.proofs.RunLemmas.{group-decides, never-decides, none-decides, repeated-decides, run-decides}
use Rattle.grep_regex.proofs.RunLemmas.{last-decides}
use Rattle.grep_regex.proofs.class_tree.+decisive.Goals as goal

pub decisive_sets-returns-then-min-eq0 : goal.decisive_sets-returns-then-min-eq0
decisive_sets-returns-then-min-eq0 t c =
    rw (c.in-Repetition.is, meaning-Repetition, c.if-min-eq0.true, c.new.ensures.items) (never-decides _ _ _)

pub decisive_sets-returns-else-min-eq0 : goal.decisive_sets-returns-else-min-eq0
decisive_sets-returns-else-min-eq0 t c = rw (c.in-Repetition.is, meaning-Repetition)
    (IfOk-weaker c.repeated_sets.result _ _
    (λ found some. IfSome_then found some (λ sets all. repeated-decides _ _ _ _ _ (rw c.deref.ensures at all)))
    c.repeated_sets.ensures)

pub decisive_sets-returns-in-Capture : goal.decisive_sets-returns-in-Capture
decisive_sets-returns-in-Capture t c = rw (c.in-Capture.is, meaning-Capture) (IfOk-weaker c.decisive_sets.result _ _
    (λ found some. IfSome_then found some (λ sets one. group-decides _ _ _ (rw c.deref-in-Capture.ensures at one)))
    c.decisive_sets.ensures)

pub decisive_sets-returns-in-Concat : goal.decisive_sets-returns-in-Concat
decisive_sets-returns-in-Concat t c = rw (c.in-Concat.is, meaning-Concat) (subst
    (λ subs. IfOk c.decisive_all.result
    (λ found. IfSome found (λ sets. Decides (cat_all (map meaning subs)) sets.items)))
    c.deref-in-Concat.ensures.value c.decisive_all.ensures)

pub decisive_sets-returns-in_default : goal.decisive_sets-returns-in_default
decisive_sets-returns-in_default t c = IfOk-weaker c.run_sets.result _ _
    (λ found some. IfSome_then found some (λ sets run. run-decides _ _ run)) c.run_sets.ensures

pub decisive_all-returns-then-is_empty : goal.decisive_all-returns-then-is_empty
decisive_all-returns-then-is_empty t c = rw c.new.ensures.items
    (none-decides c.args.subs.now (eqb-true _ 0 (sym c.is_empty.ensures ∙ c.if-is_empty.true)))

pub decisive_all-returns : goal.decisive_all-returns
decisive_all-returns t c =
    let subs = c.args.subs.now in
    let filled = eqb-false _ 0 (sym c.is_empty.ensures ∙ c.if-is_empty.false) in
    rw (c.in_ok-add_all.ensures, c.deref.ensures.value)
    (last-decides subs (length subs - 1) c.index-subs-last.result c.in-Some.sets.items c.in-Some-2.more.items
    (omega (arith, filled)) (sym c.index-subs-last.is)
    (subst (λ o. IfSome o (λ sets. IsRun (cat_all (map meaning (take (length subs - 1) subs))) sets.items)) c.in-Some.is
    c.in_ok-sets.ensures)
    (subst (λ o. IfSome o (λ sets. Decides (meaning c.index-subs-last.result) sets.items)) c.in-Some-2.is
    c.in_ok-more.ensures))
