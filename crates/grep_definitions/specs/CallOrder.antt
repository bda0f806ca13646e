-- In which order a search that isn't refused calls its sink, whatever the matcher finds and the
-- reader gives: `begin`, calls in between, up to the first that doesn't return true, and `finish`,
-- which doesn't follow an error.
use Rattle.std.specs.Prelude.{◌≡◌, ◌≤◌, ◌⊎◌, ℕ, Bool, true, false, List, [], ◌∷◌, ◌++◌, All}
use Rattle.std.specs.Prelude.{count_by, Result, Ok, Err}
use Rattle.std.specs.declared.io.Error.{Error}
use Rattle.grep_definitions.specs.Searches.{is_detecting, comes_between}
use Rattle.grep_report.specs.ErrorMakers.{ErrorMakers}
use Rattle.grep_matcher.specs.Meanings.{MatcherFacts}
use Rattle.grep_definitions.specs.Plans.{Settings, Planned, begins, Steps, Outcome, all_true}
use Rattle.grep_definitions.specs.Plans.{stopped, failed, AreMade, counted, is_binary_data, planned}

-- each call may come between `begin` and `finish`
abbrev pub AreInner : Settings → List Planned → Type 0
AreInner settings calls =
    All (λ call. comes_between (is_detecting settings.binary_detection) call.call ≡ true) calls

-- how many of some calls are `binary_data`
abbrev pub binary_count : List Planned → ℕ
binary_count calls = count_by (λ call. is_binary_data call.call) calls

-- the byte count after calls with this outcome: any, or that of the call that returned false
abbrev pub EndsAt : {E : Type 0} → Outcome E → ℕ → Type 0
EndsAt all_true count = Unit {0}
EndsAt (stopped finish) count = finish ≡ counted count
EndsAt (failed e) count = ⊥

module _ {S E : Type 0} (step : Steps S E) (settings : Settings) where
  -- after some calls, others between `begin` and `finish`, up to the first that didn't return true,
  -- with this outcome; at most so many are `binary_data`
  pub record HasCalledAfter (before : List Planned) (bound : ℕ) (old : S) (outcome : Outcome E)
      (new : S) : Type 0 where
    pub calls : List Planned
    pub inner : AreInner settings calls
    pub few : binary_count calls ≤ bound
    pub reported : AreMade step settings old (before ++ calls) outcome new

  -- such calls after which `finish` has this byte count
  pub record HasCountedAfter (before : List Planned) (bound : ℕ) (old : S) (count : ℕ) (new : S)
      : Type 0 where
    pub outcome : Outcome E
    pub ends : EndsAt outcome count
    pub called : HasCalledAfter before bound old outcome new

  abbrev pub HasCalled : ℕ → S → Outcome E → S → Type 0
  HasCalled = HasCalledAfter []

  abbrev pub HasCalledTo : ℕ → S → ℕ → S → Type 0
  HasCalledTo = HasCountedAfter []

  -- and with `begin`
  abbrev pub HasBegunWith : ℕ → S → Outcome E → S → Type 0
  HasBegunWith = HasCalledAfter (planned begins 0 ∷ [])

  abbrev pub HasBegunTo : ℕ → S → ℕ → S → Type 0
  HasBegunTo = HasCountedAfter (planned begins 0 ∷ [])

  module _ {F : Type 0} (errors : ErrorMakers F E) (matcher : MatcherFacts F) where
    -- the sink's own error in the last of such calls, or the matcher's after calls that all
    -- returned true
    pub data HasFailedIn (Called : Outcome E → S → Type 0) : E → S → Type 0 where
      of_call : {e : E} {new : S} → Called (failed e) new → HasFailedIn Called e new
      of_question : {e : E} {new : S} (haystack : List ℕ) (error : F)
          → matcher.fails haystack error → errors.is_message error e
          → Called all_true new → HasFailedIn Called e new

    -- reports after `begin`, by what they came to: the search goes on, or it ends with this byte
    -- count, or it failed
    abbrev pub GoesOnInOrder : S → Result Bool E → ℕ → S → Type 0
    GoesOnInOrder old (Ok true) count new = HasCalled 0 old all_true new
    GoesOnInOrder old (Ok false) count new = HasCalledTo 0 old count new
    GoesOnInOrder old (Err e) count new = HasFailedIn (HasCalled 0 old) e new

    -- all of them, before `finish`, which is to have the byte count
    abbrev pub EndsInOrder : S → Result ℕ E → S → Type 0
    EndsInOrder old (Ok count) new = HasCalledTo 0 old count new
    EndsInOrder old (Err e) new = HasFailedIn (HasCalled 0 old) e new

    -- `begin` too
    abbrev pub BeginsInOrder : S → Result ℕ E → S → Type 0
    BeginsInOrder old (Ok count) new = HasBegunTo 0 old count new
    BeginsInOrder old (Err e) new = HasFailedIn (HasBegunWith 0 old) e new

    -- all calls after `begin` but `finish`, of an input that is read between them
    abbrev pub ReadsInOrder : (Error → Type 0) → S → Result ℕ E → S → Type 0
    ReadsInOrder IsOfReading old (Ok count) new = HasCalledTo 1 old count new
    ReadsInOrder IsOfReading old (Err e) new =
        HasFailedIn (HasCalled 1 old) e new
        ⊎ ((error : Error) × IsOfReading error × errors.is_io error e
        × HasCalled 1 old all_true new)
