-- Why a search fails, if the matcher never does.
use Rattle.std.specs.Prelude.{◌≡◌, ◌⊎◌, ℕ, Bool, List, Option, None, Err}
use Rattle.std.specs.declared.io.Error.{Error}
use Rattle.grep_decode.specs.Source.{ReadResult}
use Rattle.grep_matcher.specs.Meanings.{IsInfallible, MatcherFacts, Meaning}
use Rattle.grep_report.specs.ErrorMakers.{ErrorMakers}
use Rattle.grep_report.specs.declared.sink_error.SearchError.{SearchError}
use Rattle.grep_report.specs.declared.sink_error.SearchError.TheVariants.{Io}
use Rattle.grep_definitions.specs.Plans.{IsLawful, NeverFails, refusal_of, Steps, Settings}
use Rattle.grep_definitions.specs.Plans.{SearcherState}
use Rattle.grep_definitions.specs.Searches.{EndsUnread, IsReaderSearched}
use Rattle.grep_searcher.specs.SinkFolds.{FailsAtStep}
use Rattle.grep_definitions.specs.SliceSearches.{IsSliceSearched, IsUndecoded}

-- the matcher never fails and is lawful for the search, which isn't refused
pub record IsFaultless {F : Type 0} (matcher : MatcherFacts F) (settings : Settings) : Type 0 where
  pub infallible : IsInfallible matcher.fails
  pub lawful : IsLawful matcher settings
  pub allowed : refusal_of settings matcher.meaning ≡ None

-- the fact holds, if neither the sink nor the matcher ever fails
abbrev pub IfNoneFails : {S E F : Type 0} → Steps S E → (S → Type 0) → MatcherFacts F → Type 0
    → Type 0
IfNoneFails step may_call matcher Fact =
    NeverFails step may_call → IsInfallible matcher.fails → Fact

-- a slice has to be decoded, and not all of it was: the error of its search is made of the cause of
-- that
abbrev pub EndsUndecoded : {E : Type 0} → (Error → E → Type 0) → SearcherState → Meaning → List ℕ
    → E → Type 0
EndsUndecoded is_io state meaning input e =
    (begun : Bool) × (seen : List ℕ) × (error : Error)
    × IsUndecoded state meaning input begun seen error × is_io error e

-- so it is, and the error is the cause itself
abbrev pub IsDecodingError : {A : Type 0} → SearcherState → Meaning → List ℕ → SearchError A
    → Type 0
IsDecodingError state meaning input e =
    EndsUndecoded (λ error made. made ≡ Io error) state meaning input e

module _ {S E F : Type 0} (step : Steps S E) (errors : ErrorMakers F E)
    (matcher : MatcherFacts F) where
  -- an error of a search of a slice is that of a step of the sink, or the slice has to be decoded
  -- and not all of it was
  abbrev pub SlicesFail : Type 0
  SlicesFail =
      (state : SearcherState) (input : List ℕ) (old : S) (e : E) (new : S)
      → IsFaultless matcher state.settings
      → IsSliceSearched step errors matcher state input old (Err e) new
      → FailsAtStep step errors matcher state.settings e new
      ⊎ EndsUndecoded errors.is_io state matcher.meaning input e

  -- and one of a reader that of a step of the sink, or the reader wasn't read to its end
  abbrev pub ReadersFail : {R : Type 0} → (R → Option (List ℕ)) → (R → ReadResult → R → Type 0)
      → Type 0
  ReadersFail {R} remaining read_step =
      (state : SearcherState) (reader : R) (old : S) (e : E) (reader' : R) (new : S)
      → IsFaultless matcher state.settings
      → IsReaderSearched remaining read_step step errors matcher state reader old
      (Err e) reader' new
      → FailsAtStep step errors matcher state.settings e new
      ⊎ EndsUnread remaining read_step errors.is_io state matcher.meaning reader e reader'
