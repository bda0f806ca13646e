-- What a sink that calls a closure makes of a call.
use Rattle.std.specs.Prelude.{◌≡◌, ◌⊎◌, ◌+◌, ℕ, Bool, true, false, List, [], ◌∷◌, ◌++◌, map, Option}
use Rattle.std.specs.Prelude.{Some, None, Result, Ok, Err}
use Rattle.std.specs.Borrow.{Bor}
use Rattle.std.specs.IoError.{error_kind}
use Rattle.std.specs.Str.{IsUtf8}
use Rattle.std.specs.Str.Lossy.{utf8_lossy}
use Rattle.std.specs.declared.io.Error.{Error}
use Rattle.std.specs.declared.io.ErrorKind.TheVariants.{Other, OutOfMemory}
use Rattle.grep_report.specs.SearchErrors.{HasText}
use Rattle.grep_definitions.specs.Plans.{is_across, search_plan, Call, matches, Plan, Steps, IsRun}
use Rattle.grep_definitions.specs.Plans.{line, reported_bytes, Settings}
use Rattle.grep_definitions.specs.SearchLaws.{match_calls, matched_lines}
use Rattle.grep_searcher.specs.SinkFolds.{AreTaken}
use Rattle.grep_matcher.specs.Meanings.{Meaning}

-- The text of a match as the closure gets it, or the error if it gets none.

-- the bytes as they are
abbrev pub IsWholeText : List ℕ → Result (List ℕ) Error → Type 0
IsWholeText bytes (Ok text) = text ≡ bytes
IsWholeText bytes (Err e) = ⊥

-- the bytes as they are, if they are UTF-8
abbrev pub IsUtf8Text : List ℕ → Result (List ℕ) Error → Type 0
IsUtf8Text bytes (Ok text) = (text ≡ bytes) × IsUtf8 bytes
IsUtf8Text bytes (Err e) = (IsUtf8 bytes → ⊥) × HasText e

-- the bytes with each part that isn't UTF-8 replaced, for which there may be no memory if there is
-- one
abbrev pub IsLossyText : List ℕ → Result (List ℕ) Error → Type 0
IsLossyText bytes (Ok text) = text ≡ utf8_lossy bytes
IsLossyText bytes (Err e) = (IsUtf8 bytes → ⊥) × (error_kind e ≡ OutOfMemory)

module _ {F : Type 0} (call : F → ℕ → Bor (List ℕ) → Result Bool Error → F → Type 0)
    (is_text : List ℕ → Result (List ℕ) Error → Type 0) where
  -- the closure isn't called, and the search goes on
  abbrev pub IsPassedOver : F → Result Bool Error → F → Type 0
  IsPassedOver old result new = (result ≡ Ok true) × (new ≡ old)

  -- the closure isn't called, by this error
  abbrev pub IsRefusedBy : (Error → Type 0) → F → Result Bool Error → F → Type 0
  IsRefusedBy is_error old result new = (e : Error) × is_error e × (result ≡ Err e) × (new ≡ old)

  -- a match with this text: the closure is called once, with its number and the text, and its
  -- result is returned; without a number the error is of the kind `Other`
  abbrev pub IsCalled : Option ℕ → List ℕ → F → Result Bool Error → F → Type 0
  IsCalled None text old result new = IsRefusedBy (λ e. error_kind e ≡ Other) old result new
  IsCalled (Some number) text old result new =
      (passed : Bor (List ℕ)) × (passed.now ≡ text) × call old number passed result new

  -- a match: there is no text for the closure, or it is called with the text; any other call passes
  -- it over
  abbrev pub IsClosureStep : F → Call → Result Bool Error → F → Type 0
  IsClosureStep old (matches number offset bytes around) result new =
      IsRefusedBy (λ e. is_text bytes (Err e)) old result new
      ⊎ ((text : List ℕ) × is_text bytes (Ok text) × IsCalled number text old result new)
  IsClosureStep old _ result new = IsPassedOver old result new

  -- the closure is called at a match, with its number and its text, and returns whether the search
  -- goes on
  abbrev pub IsCalledAt : F → Call → Bool → F → Type 0
  IsCalledAt old (matches (Some number) offset bytes around) b new =
      (text : List ℕ) × is_text bytes (Ok text) × IsCalled (Some number) text old (Ok b) new
  IsCalledAt old _ b new = ⊥

  -- the closure was called at these matches, in order, up to the first at which it returned false
  pub record AreCalled (old : F) (calls : List Call) (new : F) : Type 0 where
    pub taken : AreTaken IsCalledAt old calls new

  -- the steps of a sink that has the closure
  abbrev pub ClosureSteps : {S : Type 0} → (S → F) → Steps S Error
  ClosureSteps closure old settings made result new =
      IsClosureStep (closure old) made result (closure new)

  -- in a run that ended in `Ok`, of such a sink, it was called at the matches that are reported
  abbrev pub ClosuresAreCalled : {S : Type 0} → (S → F) → Type 0
  ClosuresAreCalled {S} closure =
      (settings : Settings) (old : S) (plan : Plan) (new : S)
      → IsRun (ClosureSteps closure) settings old plan (Ok tt) new
      → AreCalled (closure old) (match_calls plan.calls) (closure new)

  -- an error of a call: there was no text for the closure, or no number, or the closure was called
  -- and returned it
  abbrev pub ClosuresFail : {S : Type 0} → (S → F) → Type 0
  ClosuresFail {S} closure =
      (settings : Settings) (old : S) (made : Call) (e : Error) (new : S)
      → ClosureSteps closure old settings made (Err e) new
      → is_text (reported_bytes made) (Err e) ⊎ ((error_kind e ≡ Other)
      ⊎ ((number : ℕ) × (text : Bor (List ℕ)) × call (closure old) number text (Err e) (closure new)))

  -- a call of the closure that returns goes on, adds its number and its text to what is kept, and
  -- leaves the name of the reference through which it is kept
  abbrev pub KeepsCalls : (F → ℕ) → (F → List (ℕ × List ℕ)) → Type 0
  KeepsCalls name kept =
      (old : F) (number : ℕ) (text : Bor (List ℕ)) (b : Bool) (new : F)
      → call old number text (Ok b) new → (b ≡ true) × (name new ≡ name old)
      × (kept new ≡ kept old ++ (number, text.now) ∷ [])

  -- then a run along a plan with the matches of a search by line, that ended in `Ok`, adds the
  -- numbers and the texts of the matched lines
  abbrev pub ClosuresKeep : {S : Type 0} → (S → F) → (List ℕ → List ℕ) → Type 0
  ClosuresKeep {S} closure text_of =
      (name : F → ℕ) (kept : F → List (ℕ × List ℕ)) → KeepsCalls name kept
      → (settings : Settings) (meaning : Meaning) (bytes : List ℕ)
      → is_across settings meaning ≡ false
      → (plan : Plan)
      → match_calls plan.calls ≡ match_calls (search_plan settings meaning bytes).calls
      → (old new : S) → IsRun (ClosureSteps closure) settings old plan (Ok tt) new
      → (name (closure new) ≡ name (closure old))
      × (kept (closure new) ≡ kept (closure old)
      ++ map (λ i. (i + 1, text_of (line settings bytes i)))
      (matched_lines settings meaning bytes))
