-- Sinks that lend matches to a closure.
use Rattle.std.proofs.Common.{◌≡◌, ℕ, Bool, true, false, List, [], ◌∷◌, ◌++◌, refl, sym, ap, ◌∙◌}
use Rattle.std.proofs.Common.{inl, inr, append_assoc}
use Rattle.std.proofs.lemmas.List.{append-nil}
use Rattle.std.specs.Prelude.{Result, Ok, Err, map}
use Rattle.std.specs.List.{flat_map}
use Rattle.std.specs.Borrow.{Bor}
use Rattle.std.specs.declared.io.Error.{Error}
use Rattle.grep_report.specs.SinkReports.{MatchReport}
use Rattle.grep_definitions.specs.Plans.{Call, begins, matches, context, breaks, binary_data}
use Rattle.grep_definitions.specs.Plans.{finishes}
use Rattle.grep_definitions.specs.SearchLaws.{match_calls}
use Rattle.grep_searcher.specs.SinkFolds.{AreTaken, IsTakenOk}
use Rattle.grep_searcher.proofs.SinkFoldLemmas.{runs-take_matches}
use Rattle.grep_searcher.specs.LentMatches.{AppendsLentByState, ClosuresAppendByState}
use Rattle.grep_searcher.specs.LentMatches.{ClosuresAppendMatches, ClosuresAreLent}
use Rattle.grep_searcher.specs.LentMatches.{ClosuresKeepMatches, ClosuresFailLent, IsLent, IsLentAt}
use Rattle.grep_searcher.specs.LentMatches.{IsLentStep, LentSteps}
use Rattle.grep_searcher.specs.MatchHandlers.{KeptReport, kept_of}
use Rattle.grep_searcher.proofs.AppendedPartLemmas.{flat_map-same}

module _ {F : Type 0} (call : F → Bor MatchReport → Result Bool Error → F → Type 0) where
  -- a call that succeeds lends the closure a match, and no other call does
  lent-takes : (old : F) (made : Call) (b : Bool) (new : F) → IsLentStep call old made (Ok b) new
      → IsTakenOk (IsLentAt call) old made b new
  lent-takes old begins b new (is, same) = (cc, same)
  lent-takes old (matches number offset bytes around) b new lent = lent
  lent-takes old (context kind number offset bytes) b new (is, same) = (cc, same)
  lent-takes old breaks b new (is, same) = (cc, same)
  lent-takes old (binary_data offset) b new (is, same) = (cc, same)
  lent-takes old (finishes count binary) b new (is, same) = (cc, same)

  pub closures-are_lent : {S : Type 0} (closure : S → F) → ClosuresAreLent call closure
  closures-are_lent closure settings old plan new run =
      runs-take_matches (LentSteps call closure) settings plan.finish new closure (IsLentAt call)
      (λ from made b after h. lent-takes (closure from) made b (closure after) h) old plan.calls run

  lent-failed : (old : F) (made : Call) (e : Error) (new : F) → IsLentStep call old made (Err e) new
      → IsLent call old made (Err e) new
  lent-failed old begins e new (is, same) = absurd (cc)
  lent-failed old (matches number offset bytes around) e new lent = lent
  lent-failed old (context kind number offset bytes) e new (is, same) = absurd (cc)
  lent-failed old breaks e new (is, same) = absurd (cc)
  lent-failed old (binary_data offset) e new (is, same) = absurd (cc)
  lent-failed old (finishes count binary) e new (is, same) = absurd (cc)

  pub closures-fail_lent : {S : Type 0} (closure : S → F) → ClosuresFailLent call closure
  closures-fail_lent closure settings old made e new failed = lent-failed (closure old) made e
      (closure new) failed

  module _ {X : Type 0} (part : F → Call → List X) (name : F → ℕ) (kept : F → List X)
      (by : AppendsLentByState call part name kept) where
    lent-one : (old : F) (made : Call) (b : Bool) (new : F) → IsLentAt call old made b new
        → (b ≡ true) × (name new ≡ name old) × (kept new ≡ kept old ++ part old made)
        × ((other : Call) → part new other ≡ part old other)
    lent-one old made b new (found, is, called) =
        let here = by old found b new called in
        (here.0, here.1, here.2 ∙ ap (λ m. kept old ++ part old m) is, here.3)

    lent-all : (calls : List Call) (old new : F) → AreTaken (IsLentAt call) old calls new
        → (name new ≡ name old) × (kept new ≡ kept old ++ flat_map (part old) calls)
    lent-all [] old new same = (ap name same, ap kept same ∙ sym (append-nil (kept old)))
    lent-all (made ∷ later) old new (inl (mid, here, rest)) =
        let first = lent-one old made true mid here in
        let others = lent-all later mid new rest in (
          others.0 ∙ first.1,
          others.1 ∙ ap (λ parts. kept mid ++ parts)
              (flat_map-same (part mid) (part old) first.3 later)
              ∙ ap (λ k. k ++ flat_map (part old) later) first.2
              ∙ append_assoc (kept old) (part old made) (flat_map (part old) later),
        )
    lent-all (made ∷ later) old new (inr here) =
        absurd (let never = (lent-one old made false new here).0 in cc)

  pub closures-append_by_state : {S : Type 0} (X : Type 0) (closure : S → F)
      → ClosuresAppendByState call X closure
  closures-append_by_state X closure part name kept by settings old plan new run =
      lent-all part name kept by (match_calls plan.calls) (closure old) (closure new)
      (closures-are_lent closure settings old plan new run)

  pub closures-append_matches : {S : Type 0} (X : Type 0) (closure : S → F)
      → ClosuresAppendMatches call X closure
  closures-append_matches X closure part name kept by settings old plan new run =
      closures-append_by_state X closure (λ _. part) name kept (λ from found b after called.
      let here = by from found b after called in (here.0, here.1, here.2, λ other. refl)) settings
      old plan new run

  -- what is made of each, one after another
  flat_map-each : (calls : List Call) → flat_map (λ made. kept_of made ∷ []) calls
      ≡ map kept_of calls
  flat_map-each [] = refl
  flat_map-each (made ∷ later) = ap (λ kept. kept_of made ∷ kept) (flat_map-each later)

  pub closures-keep_matches : {S : Type 0} (closure : S → F) → ClosuresKeepMatches call closure
  closures-keep_matches closure name kept by settings old plan new run =
      let appended = closures-append_matches KeptReport closure (λ made. kept_of made ∷ []) name
      kept by settings old plan
      new run in (
        appended.0,
        appended.1 ∙ ap (λ k. kept (closure old) ++ k) (flat_map-each (match_calls plan.calls)),
      )
