-- Sinks that pass each call to a closure.
use Rattle.std.proofs.Common.{◌≡◌, ℕ, Bool, true, false, List, [], ◌∷◌, ◌++◌, refl, sym, ap, subst}
use Rattle.std.proofs.Common.{◌∙◌, inl, inr, append_assoc}
use Rattle.std.proofs.lemmas.Bool.{false≢true}
use Rattle.std.proofs.lemmas.List.{append-nil}
use Rattle.std.specs.Prelude.{Result, Ok, Err}
use Rattle.std.specs.List.{flat_map}
use Rattle.std.specs.declared.io.Error.{Error}
use Rattle.grep_definitions.specs.Plans.{Call, begins, matches, context, breaks, binary_data}
use Rattle.grep_definitions.specs.Plans.{finishes, Finish, Planned, Outcome, AreMade, IsFinished}
use Rattle.grep_definitions.specs.Plans.{Settings}
use Rattle.grep_definitions.specs.SearchLaws.{calls_of}
use Rattle.grep_searcher.specs.AppendedParts.{run_calls}
use Rattle.grep_searcher.specs.declared.sinks.calls.SinkCall.{SinkCall}
use Rattle.grep_searcher.specs.PassedCalls.{AppendsPassedByState, ArePassed, ClosuresAppend}
use Rattle.grep_searcher.specs.PassedCalls.{ClosuresAppendPassedByState}
use Rattle.grep_searcher.specs.PassedCalls.{ClosuresArePassed, ClosuresFailPassed}
use Rattle.grep_searcher.specs.PassedCalls.{ClosuresKeepCalls, is_finish, IsPassed, IsPassedStep}
use Rattle.grep_searcher.specs.PassedCalls.{PassedSteps}
use Rattle.grep_searcher.proofs.AppendedPartLemmas.{flat_map-same}

module _ {F : Type 0} (call : F → SinkCall → Result Bool Error → F → Type 0) {S : Type 0}
    (closure : S → F) where
  module _ (settings : Settings) (finish : Finish) (new : S) where
    made-passed : (calls : List Planned) (old : S) (outcome : Outcome Error) (mid : S)
        → AreMade (PassedSteps call closure) settings old calls outcome mid
        → IsFinished (PassedSteps call closure) settings outcome mid finish (Ok tt) new
        → ArePassed call (closure old) calls finish (closure new)
    made-passed [] old outcome mid (is, same) finished =
        let last = subst (λ o. IsFinished (PassedSteps call closure) settings o mid finish
        (Ok tt) new) is finished in
        subst (λ s. ArePassed call (closure s) [] finish (closure new)) same (last.1, last.2)
    made-passed (planned ∷ later) old outcome mid (inl (between, made, rest)) finished =
        inl (closure between, made, made-passed later between outcome mid rest finished)
    made-passed (planned ∷ later) old outcome mid (inr (inl (is, made))) finished =
        let last = subst (λ o. IsFinished (PassedSteps call closure) settings o mid finish
        (Ok tt) new) is finished in
        inr (closure mid, made, (last.1, last.2))
    made-passed (planned ∷ later) old outcome mid (inr (inr (e, is, made))) finished =
        let last = subst (λ o. IsFinished (PassedSteps call closure) settings o mid finish
        (Ok tt) new) is finished in
        absurd (let never = last.0 in cc)

  pub closures-are_passed : ClosuresArePassed call closure
  closures-are_passed settings old plan new run =
      made-passed settings plan.finish new plan.calls old run.outcome run.mid run.made run.finished

  passed-failed : (old : F) (made : Call) (e : Error) (new : F)
      → IsPassedStep call old made (Err e) new → IsPassed call old made (Err e) new
  passed-failed old begins e new h = h
  passed-failed old (matches number offset bytes around) e new h = h
  passed-failed old (context kind number offset bytes) e new h = h
  passed-failed old breaks e new h = h
  passed-failed old (binary_data offset) e new h = h
  passed-failed old (finishes count binary) e new h = h

  pub closures-fail_passed : ClosuresFailPassed call closure
  closures-fail_passed settings old made e new failed = passed-failed (closure old) made e
      (closure new) failed

module _ {F : Type 0} (call : F → SinkCall → Result Bool Error → F → Type 0) {X : Type 0}
    (part : F → Call → List X)
    (name : F → ℕ) (kept : F → List X) (by : AppendsPassedByState call part name kept) where
  -- what is kept after a call, and that no part has changed
  abbrev Appended : F → Call → F → Type 0
  Appended old made new = (name new ≡ name old) × (kept new ≡ kept old ++ part old made)
      × ((other : Call) → part new other ≡ part old other)

  passed-one : (old : F) (made : Call) (b : Bool) (new : F) → IsPassed call old made (Ok b) new
      → (is_finish made ≡ false → b ≡ true) × Appended old made new
  passed-one old made b new (passed, is, called) =
      let here = by old passed b new called in (
        (λ other. here.0 (ap is_finish is ∙ other)),
        (here.1, here.2 ∙ ap (λ m. kept old ++ part old m) is, here.3),
      )

  passed-step : (old : F) (made : Call) (b : Bool) (new : F) → IsPassedStep call old made (Ok b) new
      → (b ≡ true) × Appended old made new
  passed-step old begins b new h = let one = passed-one old begins b new h in (one.0 refl, one.1)
  passed-step old (matches number offset bytes around) b new h =
      let one = passed-one old (matches number offset bytes around) b new h in (one.0 refl, one.1)
  passed-step old (context kind number offset bytes) b new h =
      let one = passed-one old (context kind number offset bytes) b new h in (one.0 refl, one.1)
  passed-step old breaks b new h = let one = passed-one old breaks b new h in (one.0 refl, one.1)
  passed-step old (binary_data offset) b new h =
      let one = passed-one old (binary_data offset) b new h in (one.0 refl, one.1)
  passed-step old (finishes count binary) b new (is, returned, h) =
      (is, (passed-one old (finishes count binary) returned new h).1)

  passed-all : (calls : List Planned) (finish : Finish) (old new : F)
      → ArePassed call old calls finish new → (name new ≡ name old) × (kept new ≡ kept old
      ++ flat_map (part old) (calls_of calls ++ finishes finish.count finish.binary ∷ []))
  passed-all [] finish old new (returned, h) =
      let last = finishes finish.count finish.binary in
      let end = (passed-one old last returned new h).1 in
      (end.0, end.1 ∙ ap (λ xs. kept old ++ xs) (sym (append-nil (part old last))))
  passed-all (planned ∷ later) finish old new (inl (mid, made, rest)) =
      let here = (passed-step old planned.call true mid made).1 in
      let others = passed-all later finish mid new rest in
      let calls = calls_of later ++ finishes finish.count finish.binary ∷ [] in
      let more = flat_map (part old) calls in (
        others.0 ∙ here.0,
        others.1 ∙ ap (λ parts. kept mid ++ parts)
            (flat_map-same (part mid) (part old) here.2 calls)
            ∙ ap (λ k. k ++ more) here.1 ∙ append_assoc (kept old) (part old planned.call) more,
      )
  passed-all (planned ∷ later) finish old new (inr (mid, made, end)) =
      absurd (false≢true (passed-step old planned.call false mid made).0)

pub closures-append_by_state : {F : Type 0}
    (call : F → SinkCall → Result Bool Error → F → Type 0) {S : Type 0} (X : Type 0)
    (closure : S → F) → ClosuresAppendPassedByState call X closure
closures-append_by_state call X closure part name kept by settings old plan new run =
    passed-all call part name kept by plan.calls plan.finish (closure old) (closure new)
    (closures-are_passed call closure settings old plan new run)

pub closures-append : {F : Type 0} (call : F → SinkCall → Result Bool Error → F → Type 0)
    {S : Type 0} (X : Type 0) (closure : S → F) → ClosuresAppend call X closure
closures-append call X closure part name kept by settings old plan new run =
    closures-append_by_state call X closure (λ _. part) name kept (λ from passed b after called.
    let here = by from passed b after called in (here.0, here.1, here.2, λ other. refl)) settings
    old plan new run

-- a list is its elements, one after another
flat_map-ones : (calls : List Call) → flat_map (λ made. made ∷ []) calls ≡ calls
flat_map-ones [] = refl
flat_map-ones (made ∷ later) = ap (λ calls. made ∷ calls) (flat_map-ones later)

pub closures-keep_passed : {F : Type 0} (call : F → SinkCall → Result Bool Error → F → Type 0)
    {S : Type 0} (closure : S → F) → ClosuresKeepCalls call closure
closures-keep_passed call closure name kept by settings old plan new run =
    let appended = closures-append call Call closure (λ made. made ∷ []) name kept by settings old
    plan new run in (
      appended.0,
      appended.1 ∙ ap (λ calls. kept (closure old) ++ calls) (flat_map-ones (run_calls plan)),
    )
