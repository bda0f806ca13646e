-- Runs, put together.
use Rattle.std.proofs.Common.{◌≡◌, ℕ, inl, inr, List, [], ◌∷◌, ◌++◌, Bool, true, false, refl, sym}
use Rattle.std.proofs.Common.{ap, subst, map}
use Rattle.std.specs.Prelude.{Option, None, Some, Result, Ok, Err}
use Rattle.grep_definitions.specs.Plans.{Settings, Call, Planned, breaks, Steps, Outcome, all_true}
use Rattle.grep_definitions.specs.Plans.{stopped, failed, AreMade, planned, Finish}
use Rattle.grep_definitions.specs.LineCalls.{one_call, break_calls, broken_calls}
use Rattle.grep_definitions.specs.SinkRuns.{outcome_of, with_binary}

module _ {S E : Type 0} (step : Steps S E) (k : Settings) where
  -- calls after calls that all returned true
  pub AreMade-append : (front back : List Planned) (old mid : S) (outcome : Outcome E) (new : S)
      → AreMade step k old front all_true mid → AreMade step k mid back outcome new
      → AreMade step k old (front ++ back) outcome new
  AreMade-append [] back old mid outcome new (is, same) later = subst
      (λ s. AreMade step k s back outcome new) same later
  AreMade-append (call ∷ front) back old mid outcome new (inl (next, goes, reported)) later =
      inl (next, goes, AreMade-append front back next mid outcome new reported later)
  AreMade-append (call ∷ front) back old mid outcome new (inr (inl (is, stops))) later = cc
  AreMade-append (call ∷ front) back old mid outcome new (inr (inr (e, is, fails))) later = cc

  -- what ended early says nothing of the calls after it
  pub AreMade-ended : (front back : List Planned) (old : S) (outcome : Outcome E) (new : S)
      → (outcome ≡ all_true → ⊥) → AreMade step k old front outcome new
      → AreMade step k old (front ++ back) outcome new
  AreMade-ended [] back old outcome new ended (is, same) = absurd (ended is)
  AreMade-ended (call ∷ front) back old outcome new ended (inl (next, goes, reported)) =
      inl (next, goes, AreMade-ended front back next outcome new ended reported)
  AreMade-ended (call ∷ front) back old outcome new ended (inr h) = inr h

  -- one call, by what it returned
  pub AreMade-one : (call : Call) (end : ℕ) (old : S) (result : Result Bool E) (new : S)
      → step old k call result new → AreMade step k old (planned call end ∷ [])
      (outcome_of end result) new
  AreMade-one call end old (Ok true) new made = inl (new, made, (refl, refl))
  AreMade-one call end old (Ok false) new made = inr (inl (refl, made))
  AreMade-one call end old (Err e) new made = inr (inr (e, refl, made))

  -- one call, after the break before it if there is a gap
  pub AreMade-broken : (gap : Bool) (call : Call) (end : ℕ) (old mid : S) (result : Result Bool E)
      (new : S) → AreMade step k old (break_calls gap end) all_true mid → step mid k call result new
      → AreMade step k old (broken_calls gap call end) (outcome_of end result) new
  AreMade-broken true call end old mid result new (inl (next, goes, (is, same))) made =
      inl (
        mid,
        subst (λ s. step old k breaks (Ok true) s) (sym same) goes,
        AreMade-one call end mid result new made,
      )
  AreMade-broken true call end old mid result new (inr (inl (is, stops))) made = cc
  AreMade-broken true call end old mid result new (inr (inr (e, is, fails))) made = cc
  AreMade-broken false call end old mid result new (is, same) made =
      subst (λ s. AreMade step k s (one_call call end) (outcome_of end result) new) same
      (AreMade-one call end mid result new made)

  -- a break that ends it
  pub AreMade-unbroken : (gap : Bool) (call : Call) (end : ℕ) (old : S) (outcome : Outcome E)
      (new : S) → (outcome ≡ all_true → ⊥) → AreMade step k old (break_calls gap end) outcome new
      → AreMade step k old (broken_calls gap call end) outcome new
  AreMade-unbroken true call end old outcome new ended reported =
      AreMade-ended (one_call breaks end) (one_call call end) old outcome new ended reported
  AreMade-unbroken false call end old outcome new ended (is, same) = absurd (ended is)

-- what came of calls, if `finish` has this offset whatever they return
abbrev pub outcome_with : {E : Type 0} → Option ℕ → Outcome E → Outcome E
outcome_with binary all_true = all_true
outcome_with binary (stopped finish) = stopped (record finish { binary = binary })
outcome_with binary (failed e) = failed e

-- the same, if a binary byte was reported
abbrev pub finish_by : Option ℕ → Finish → Finish
finish_by None finish = finish
finish_by (Some offset) finish = record finish { binary = Some offset }

abbrev pub outcome_by : {E : Type 0} → Option ℕ → Outcome E → Outcome E
outcome_by found all_true = all_true
outcome_by found (stopped finish) = stopped (finish_by found finish)
outcome_by found (failed e) = failed e

pub all-by : {E : Type 0} (found : Option ℕ) (o : Outcome E) → outcome_by found o ≡ all_true → o
    ≡ all_true
all-by found all_true is = refl
all-by found (stopped finish) is = cc
all-by found (failed e) is = cc

pub by-none : {E : Type 0} (o : Outcome E) → o ≡ outcome_by None o
by-none all_true = refl
by-none (stopped finish) = refl
by-none (failed e) = refl

pub by-some : {E : Type 0} (offset : ℕ) (o : Outcome E) → outcome_with (Some offset) o
    ≡ outcome_by (Some offset) o
by-some offset all_true = refl
by-some offset (stopped finish) = refl
by-some offset (failed e) = refl

module _ {S E : Type 0} (step : Steps S E) (k : Settings) where
  -- the same calls, after which `finish` has this offset
  pub made-binary : (binary : Option ℕ) (calls : List Planned) (old : S) (outcome : Outcome E)
      (new : S) → AreMade step k old calls outcome new
      → AreMade step k old (map (with_binary binary) calls) (outcome_with binary outcome) new
  made-binary binary [] old outcome new (is, same) = (ap (outcome_with binary) is, same)
  made-binary binary (call ∷ later) old outcome new (inl (mid, goes, made)) =
      inl (mid, goes, made-binary binary later mid outcome new made)
  made-binary binary (call ∷ later) old outcome new (inr (inl (is, stops))) = inr
      (inl (ap (outcome_with binary) is, stops))
  made-binary binary (call ∷ later) old outcome new (inr (inr (e, is, fails))) =
      inr (inr (e, ap (outcome_with binary) is, fails))
