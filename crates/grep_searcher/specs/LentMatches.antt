-- What a sink that lends matches to a closure makes of a call, and of a search.
use Rattle.std.specs.Prelude.{◌≡◌, ℕ, Bool, true, List, [], ◌∷◌, ◌++◌, map, Result, Ok, Err}
use Rattle.std.specs.List.{flat_map}
use Rattle.std.specs.Borrow.{Bor}
use Rattle.std.specs.declared.io.Error.{Error}
use Rattle.grep_report.specs.SinkReports.{MatchReport}
use Rattle.grep_definitions.specs.Plans.{Call, matches, Plan, Steps, IsRun, Settings}
use Rattle.grep_definitions.specs.SearchLaws.{match_calls}
use Rattle.grep_definitions.specs.SinkArguments.{match_call}
use Rattle.grep_searcher.specs.SinkFolds.{AreTaken}
use Rattle.grep_searcher.specs.MatchHandlers.{KeptReport, kept_of}

module _ {F : Type 0} (call : F → Bor MatchReport → Result Bool Error → F → Type 0) where
  -- the closure is called once, is lent the match of a call, and returns this
  abbrev pub IsLent : F → Call → Result Bool Error → F → Type 0
  IsLent old made result new =
      (found : Bor MatchReport) × (match_call found.now ≡ made) × call old found result new

  -- it is lent a match; any other call goes on and leaves it alone
  abbrev pub IsLentStep : F → Call → Result Bool Error → F → Type 0
  IsLentStep old (matches number offset bytes around) result new =
      IsLent old (matches number offset bytes around) result new
  IsLentStep old _ result new = (result ≡ Ok true) × (new ≡ old)

  -- it is lent a match, and returns whether the search goes on
  abbrev pub IsLentAt : F → Call → Bool → F → Type 0
  IsLentAt old made b new = IsLent old made (Ok b) new

  -- the steps of a sink that has the closure
  abbrev pub LentSteps : {S : Type 0} → (S → F) → Steps S Error
  LentSteps closure old settings made result new =
      IsLentStep (closure old) made result (closure new)

  -- in a run that ended in `Ok`, of such a sink, it was lent the matches that are reported, in
  -- order, up to the first at which it returned false
  abbrev pub ClosuresAreLent : {S : Type 0} → (S → F) → Type 0
  ClosuresAreLent {S} closure =
      (settings : Settings) (old : S) (plan : Plan) (new : S)
      → IsRun (LentSteps closure) settings old plan (Ok tt) new
      → AreTaken IsLentAt (closure old) (match_calls plan.calls) (closure new)

  -- an error of a call is one that the closure returned, which was lent the call's match
  abbrev pub ClosuresFailLent : {S : Type 0} → (S → F) → Type 0
  ClosuresFailLent {S} closure =
      (settings : Settings) (old : S) (made : Call) (e : Error) (new : S)
      → LentSteps closure old settings made (Err e) new
      → IsLent (closure old) made (Err e) (closure new)

  -- a call of the closure that returns goes on, appends a part for the match to what is kept, and
  -- leaves the name of the reference through which it is kept
  abbrev pub AppendsLent : {X : Type 0} → (Call → List X) → (F → ℕ) → (F → List X) → Type 0
  AppendsLent part name kept =
      (old : F) (found : Bor MatchReport) (b : Bool) (new : F)
      → call old found (Ok b) new → (b ≡ true) × (name new ≡ name old)
      × (kept new ≡ kept old ++ part (match_call found.now))

  -- then a run that ended in `Ok` appends the parts of the matches that are reported
  abbrev pub ClosuresAppendMatches : {S : Type 0} → Type 0 → (S → F) → Type 0
  ClosuresAppendMatches {S} X closure =
      (part : Call → List X) (name : F → ℕ) (kept : F → List X) → AppendsLent part name kept
      → (settings : Settings) (old : S) (plan : Plan) (new : S)
      → IsRun (LentSteps closure) settings old plan (Ok tt) new
      → (name (closure new) ≡ name (closure old))
      × (kept (closure new) ≡ kept (closure old) ++ flat_map part (match_calls plan.calls))

  -- the part may also depend on what the closure has captured, as far as no call changes what it is
  abbrev pub AppendsLentByState : {X : Type 0} → (F → Call → List X) → (F → ℕ) → (F → List X)
      → Type 0
  AppendsLentByState part name kept =
      (old : F) (found : Bor MatchReport) (b : Bool) (new : F)
      → call old found (Ok b) new → (b ≡ true) × (name new ≡ name old)
      × (kept new ≡ kept old ++ part old (match_call found.now))
      × ((other : Call) → part new other ≡ part old other)

  abbrev pub ClosuresAppendByState : {S : Type 0} → Type 0 → (S → F) → Type 0
  ClosuresAppendByState {S} X closure =
      (part : F → Call → List X) (name : F → ℕ) (kept : F → List X)
      → AppendsLentByState part name kept
      → (settings : Settings) (old : S) (plan : Plan) (new : S)
      → IsRun (LentSteps closure) settings old plan (Ok tt) new
      → (name (closure new) ≡ name (closure old))
      × (kept (closure new)
      ≡ kept (closure old) ++ flat_map (part (closure old)) (match_calls plan.calls))

  -- if it keeps the number, the offset and the bytes of each match, these are added
  abbrev pub KeepsMatches : (F → ℕ) → (F → List KeptReport) → Type 0
  KeepsMatches name kept = AppendsLent (λ made. kept_of made ∷ []) name kept

  abbrev pub ClosuresKeepMatches : {S : Type 0} → (S → F) → Type 0
  ClosuresKeepMatches {S} closure =
      (name : F → ℕ) (kept : F → List KeptReport) → KeepsMatches name kept
      → (settings : Settings) (old : S) (plan : Plan) (new : S)
      → IsRun (LentSteps closure) settings old plan (Ok tt) new
      → (name (closure new) ≡ name (closure old))
      × (kept (closure new) ≡ kept (closure old) ++ map kept_of (match_calls plan.calls))
