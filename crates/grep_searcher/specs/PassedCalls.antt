-- What a sink that passes each call to a closure makes of a call.
use Rattle.std.specs.Prelude.{◌≡◌, ◌⊎◌, ℕ, Bool, true, false, List, [], ◌∷◌, ◌++◌, Result, Ok, Err}
use Rattle.std.specs.List.{flat_map}
use Rattle.std.specs.declared.io.Error.{Error}
use Rattle.grep_definitions.specs.Plans.{Call, begins, breaks, binary_data, finishes}
use Rattle.grep_definitions.specs.Plans.{Finish as PlanFinish, Plan, Planned, Steps, IsRun}
use Rattle.grep_definitions.specs.Plans.{Settings}
use Rattle.grep_definitions.specs.SinkArguments.{match_call, context_call, finish_call}
use Rattle.grep_searcher.specs.AppendedParts.{run_calls}
use Rattle.grep_searcher.specs.declared.sinks.calls.SinkCall.{SinkCall}
use Rattle.grep_searcher.specs.declared.sinks.calls.SinkCall.TheVariants.{Begin, Match, Context}
use Rattle.grep_searcher.specs.declared.sinks.calls.SinkCall.TheVariants.{Break, BinaryData, Finish}

-- the call that a closure is passed
abbrev pub passed_call : SinkCall → Call
passed_call Begin = begins
passed_call (Match found) = match_call found.now
passed_call (Context line) = context_call line.now
passed_call Break = breaks
passed_call (BinaryData offset) = binary_data offset
passed_call (Finish finish) = finish_call finish.now

-- whether a call is `finish`
abbrev pub is_finish : Call → Bool
is_finish (finishes count binary) = true
is_finish _ = false

module _ {F : Type 0} (call : F → SinkCall → Result Bool Error → F → Type 0) where
  -- the closure is called once, is passed the call, and returns this
  abbrev pub IsPassed : F → Call → Result Bool Error → F → Type 0
  IsPassed old made result new =
      (passed : SinkCall) × (passed_call passed ≡ made) × call old passed result new

  -- whatever it returns at the end, if it isn't an error
  abbrev pub IsPassedStep : F → Call → Result Bool Error → F → Type 0
  IsPassedStep old (finishes count binary) (Ok b) new =
      (b ≡ true) × (returned : Bool) × IsPassed old (finishes count binary) (Ok returned) new
  IsPassedStep old made result new = IsPassed old made result new

  -- the steps of a sink that has the closure
  abbrev pub PassedSteps : {S : Type 0} → (S → F) → Steps S Error
  PassedSteps closure old settings made result new =
      IsPassedStep (closure old) made result (closure new)

  -- it is passed the end, whatever it returns
  abbrev pub IsPassedEnd : F → PlanFinish → F → Type 0
  IsPassedEnd old finish new =
      (returned : Bool) × IsPassed old (finishes finish.count finish.binary) (Ok returned) new

  -- it is passed these calls in order, up to the first at which it returns false, and then the end
  abbrev pub ArePassed : F → List Planned → PlanFinish → F → Type 0
  ArePassed old [] finish new = IsPassedEnd old finish new
  ArePassed old (planned ∷ later) finish new =
      ((mid : F) × IsPassedStep old planned.call (Ok true) mid × ArePassed mid later finish new)
      ⊎ ((mid : F) × IsPassedStep old planned.call (Ok false) mid
      × IsPassedEnd mid planned.if_false new)

  -- so it was in a run that ended in `Ok`
  abbrev pub ClosuresArePassed : {S : Type 0} → (S → F) → Type 0
  ClosuresArePassed {S} closure =
      (settings : Settings) (old : S) (plan : Plan) (new : S)
      → IsRun (PassedSteps closure) settings old plan (Ok tt) new
      → ArePassed (closure old) plan.calls plan.finish (closure new)

  -- an error of a call is one that the closure returned
  abbrev pub ClosuresFailPassed : {S : Type 0} → (S → F) → Type 0
  ClosuresFailPassed {S} closure =
      (settings : Settings) (old : S) (made : Call) (e : Error) (new : S)
      → PassedSteps closure old settings made (Err e) new
      → IsPassed (closure old) made (Err e) (closure new)

  -- a call of the closure that returns goes on, unless it is the end, appends a part for what it is
  -- passed to what is kept, and leaves the name of the reference through which it is kept
  abbrev pub AppendsPassed : {X : Type 0} → (Call → List X) → (F → ℕ) → (F → List X) → Type 0
  AppendsPassed part name kept =
      (old : F) (passed : SinkCall) (b : Bool) (new : F) → call old passed (Ok b) new
      → (is_finish (passed_call passed) ≡ false → b ≡ true) × (name new ≡ name old)
      × (kept new ≡ kept old ++ part (passed_call passed))

  -- then a run that ended in `Ok` appends the parts of all calls of the plan, and of the end
  abbrev pub ClosuresAppend : {S : Type 0} → Type 0 → (S → F) → Type 0
  ClosuresAppend {S} X closure =
      (part : Call → List X) (name : F → ℕ) (kept : F → List X) → AppendsPassed part name kept
      → (settings : Settings) (old : S) (plan : Plan) (new : S)
      → IsRun (PassedSteps closure) settings old plan (Ok tt) new
      → (name (closure new) ≡ name (closure old))
      × (kept (closure new) ≡ kept (closure old) ++ flat_map part (run_calls plan))

  -- the part may also depend on what the closure has captured, as far as no call changes what it is
  abbrev pub AppendsPassedByState : {X : Type 0} → (F → Call → List X) → (F → ℕ) → (F → List X)
      → Type 0
  AppendsPassedByState part name kept =
      (old : F) (passed : SinkCall) (b : Bool) (new : F) → call old passed (Ok b) new
      → (is_finish (passed_call passed) ≡ false → b ≡ true) × (name new ≡ name old)
      × (kept new ≡ kept old ++ part old (passed_call passed))
      × ((other : Call) → part new other ≡ part old other)

  abbrev pub ClosuresAppendPassedByState : {S : Type 0} → Type 0 → (S → F) → Type 0
  ClosuresAppendPassedByState {S} X closure =
      (part : F → Call → List X) (name : F → ℕ) (kept : F → List X)
      → AppendsPassedByState part name kept
      → (settings : Settings) (old : S) (plan : Plan) (new : S)
      → IsRun (PassedSteps closure) settings old plan (Ok tt) new
      → (name (closure new) ≡ name (closure old))
      × (kept (closure new)
      ≡ kept (closure old) ++ flat_map (part (closure old)) (run_calls plan))

  -- if it keeps the calls themselves, these are added
  abbrev pub KeepsPassed : (F → ℕ) → (F → List Call) → Type 0
  KeepsPassed name kept = AppendsPassed (λ made. made ∷ []) name kept

  abbrev pub ClosuresKeepCalls : {S : Type 0} → (S → F) → Type 0
  ClosuresKeepCalls {S} closure =
      (name : F → ℕ) (kept : F → List Call) → KeepsPassed name kept
      → (settings : Settings) (old : S) (plan : Plan) (new : S)
      → IsRun (PassedSteps closure) settings old plan (Ok tt) new
      → (name (closure new) ≡ name (closure old))
      × (kept (closure new) ≡ kept (closure old) ++ run_calls plan)
