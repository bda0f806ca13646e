use Rattle.std.proofs.Common.{◌≡◌, ◌∙◌, [], ◌∷◌, ◌++◌, map, take, IfOk, IfSome, add-one, ap, ap₂, arith, refl}
use Rattle.std.proofs.Common.{subst, sym}
use Rattle.std.proofs.lemmas.Bool.{eqb-false}
use Rattle.std.proofs.lemmas.List.{take_all}
use Rattle.std.proofs.lemmas.Option.{IfSome_then}
use Rattle.std.proofs.lemmas.Result.{IfOk-weaker}
use Rattle.regex_hir.specs.Meaning.{meaning, alt_all, cat_all}
use Rattle.regex_hir.proofs.MeaningLemmas.{meaning-Empty, meaning-Literal, meaning-Bytes, meaning-Chars}
use Rattle.regex_hir.proofs.MeaningLemmas.{meaning-Repetition, meaning-Capture, meaning-Concat}
use Rattle.regex_hir.proofs.MeaningLemmas.{meaning-Alternation}
use Rattle.grep_regex.proofs.RunLemmas.{empty-run, literal-run, group-run, byte-set-run, char-set-run, all-run}
use Rattle.grep_regex.proofs.RunLemmas.{next-part, repeated-more, repeated-run}
use Rattle.grep_regex.proofs.UnionLemmas.{more-run, one-run}
use Rattle.grep_regex.specs.Classes.{repeated, IsRun}
use Rattle.grep_regex.proofs.class_tree.+run.Goals as goal

pub run_sets-returns-in-Empty : goal.run_sets-returns-in-Empty
run_sets-returns-in-Empty t c = rw (c.in-Empty.is, meaning-Empty, c.new.ensures.items) empty-run

pub run_sets-returns-in-Literal : goal.run_sets-returns-in-Literal
run_sets-returns-in-Literal t c = rw (c.in-Literal.is, meaning-Literal) (IfOk-weaker c.literal_sets.result _ _
    (λ found some. IfSome_then found some (λ sets all. literal-run _ _ (rw c.deref.ensures.value at all)))
    c.literal_sets.ensures)

pub run_sets-returns-in_ok-class_sets-in-Bytes : goal.run_sets-returns-in_ok-class_sets-in-Bytes
run_sets-returns-in_ok-class_sets-in-Bytes t c = rw (c.in-Bytes.is, meaning-Bytes)
    (byte-set-run _ _ c.in_ok-class_sets-in-Bytes.ensures)

pub run_sets-returns-in_ok-class_sets-in-Chars : goal.run_sets-returns-in_ok-class_sets-in-Chars
run_sets-returns-in_ok-class_sets-in-Chars t c = rw (c.in-Chars.is, meaning-Chars)
    (char-set-run _ _ c.in_ok-class_sets-in-Chars.ensures)

pub run_sets-returns-in-Repetition : goal.run_sets-returns-in-Repetition
run_sets-returns-in-Repetition t c =
    rw (c.in-Repetition.is, c.is_exact.ensures c.if-is_exact.true, meaning-Repetition)
    (IfOk-weaker c.repeated_sets.result _ _ (λ found some. IfSome_then found some
    (λ sets all. repeated-run _ _ _ _ _ refl (rw c.deref-in-Repetition.ensures at all))) c.repeated_sets.ensures)

pub run_sets-returns-in-Capture : goal.run_sets-returns-in-Capture
run_sets-returns-in-Capture t c = rw (c.in-Capture.is, meaning-Capture) (IfOk-weaker c.run_sets.result _ _
    (λ found some. IfSome_then found some (λ sets run. group-run _ _ _ (rw c.deref-in-Capture.ensures at run)))
    c.run_sets.ensures)

pub run_sets-returns-in-Concat : goal.run_sets-returns-in-Concat
run_sets-returns-in-Concat t c = rw (c.in-Concat.is, meaning-Concat) (subst
    (λ subs. IfOk c.run_all.result (λ found. IfSome found (λ sets. IsRun (cat_all (map meaning subs)) sets.items)))
    c.deref-in-Concat.ensures.value c.run_all.ensures)

pub run_all-loop-i-preserved : goal.run_all-loop-i-preserved
run_all-loop-i-preserved t c =
    let subs = c.args.subs.now in
    let front = map meaning (take c.loop-i.i subs) in
    rw (
      next-part subs c.loop-i.i c.index-subs-i.result c.index-subs-i.result c.loop-i-test.true (sym c.index-subs-i.is),
      c.in_ok-add_all.ensures,
    )
    (all-run front (meaning c.index-subs-i.result) c.loop-i.sets.items _ c.loop-i.invariant
    (rw c.deref.ensures.value
    (subst (λ o. IfSome o (λ sets. IsRun (meaning c.index-subs-i.result) sets.items)) c.in-Some.is
    c.in_ok-more.ensures)))

pub run_all-returns : goal.run_all-returns
run_all-returns t c =
    let all : take c.loop-i.i c.args.subs.now ≡ c.args.subs.now =
    take_all c.loop-i.i c.args.subs.now c.loop-i-test.false in
    subst (λ subs. IsRun (cat_all (map meaning subs)) c.loop-i.sets.items) all c.loop-i.invariant

pub repeated_sets-loop-preserved : goal.repeated_sets-loop-preserved
repeated_sets-loop-preserved t c =
    c.in_ok-add_all.ensures ∙ (ap₂ ◌++◌ c.loop.invariant c.deref.ensures.value
    ∙ (repeated-more c.loop.counter c.in-Some.one.items
    ∙ ap (λ n. repeated n c.in-Some.one.items) (sym (add-one c.loop.counter))))

pub repeated_sets-returns : goal.repeated_sets-returns
repeated_sets-returns t c =
    let all : c.loop.counter ≡ c.args.times = omega (arith, c.loop.auto.counter-end, c.loop-test.false) in
    record {
      one = c.in-Some.one.items;
      run = subst (λ o. IfSome o (λ sets. IsRun (meaning c.args.hir.now) sets.items)) c.in-Some.is c.in_ok-one.ensures;
      is = c.loop.invariant ∙ ap (λ n. repeated n c.in-Some.one.items) all;
    }

pub run_sets-returns-in-Alternation : goal.run_sets-returns-in-Alternation
run_sets-returns-in-Alternation t c = rw (c.in-Alternation.is, meaning-Alternation) (subst
    (λ subs. IfOk c.choice_sets.result (λ found. IfSome found (λ sets. IsRun (alt_all (map meaning subs)) sets.items)))
    c.deref-in-Alternation.ensures.value c.choice_sets.ensures)

pub choice_sets-loop-i-init : goal.choice_sets-loop-i-init
choice_sets-loop-i-init t c =
    let subs = c.args.subs.now in
    let first = c.index-subs-0.result in
    let filled = eqb-false _ 0 (sym c.is_empty.ensures ∙ c.if-is_empty.false) in
    let one : map meaning (take 1 subs) ≡ meaning first ∷ [] =
    next-part subs 0 first first (omega (arith, filled)) (sym c.index-subs-0.is) in
    rw one (one-run (meaning first) c.in-Some.sets.items
    (subst (λ o. IfSome o (λ sets. IsRun (meaning first) sets.items)) c.in-Some.is c.in_ok-sets.ensures))

pub choice_sets-loop-i-preserved : goal.choice_sets-loop-i-preserved
choice_sets-loop-i-preserved t c =
    let subs = c.args.subs.now in
    let front = map meaning (take c.loop-i.i subs) in
    let next = c.index-subs-i.result in
    rw (next-part subs c.loop-i.i next next c.loop-i-test.true (sym c.index-subs-i.is))
    (more-run front (meaning next) c.loop-i.sets.items c.in-Some-2.more.items _ c.loop-i.invariant
    (subst (λ o. IfSome o (λ sets. IsRun (meaning next) sets.items)) c.in-Some-2.is c.in_ok-more.ensures)
    (rw c.deref.ensures.value at (c.unite.ensures c.if-not-unite.false)))

pub choice_sets-returns : goal.choice_sets-returns
choice_sets-returns t c =
    let filled = eqb-false _ 0 (sym c.is_empty.ensures ∙ c.if-is_empty.false) in
    let all : take c.loop-i.i c.args.subs.now ≡ c.args.subs.now =
    take_all c.loop-i.i c.args.subs.now c.loop-i-test.false in
    subst (λ subs. IsRun (alt_all (map meaning subs)) c.loop-i.sets.items) all c.loop-i.invariant
