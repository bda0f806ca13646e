-- Why a search fails, also if its matcher may fail.
use Rattle.std.specs.Prelude.{◌≡◌, ◌⊎◌, ℕ, List, Option, None, Err}
use Rattle.std.specs.declared.io.Error.{Error}
use Rattle.grep_decode.specs.Source.{ReadResult}
use Rattle.grep_matcher.specs.Meanings.{MatcherFacts}
use Rattle.grep_report.specs.ErrorMakers.{ErrorMakers}
use Rattle.grep_report.specs.SearchErrors.{HasText, IsConfigError}
use Rattle.grep_definitions.specs.Plans.{IsLawful, refusal_of, SearcherState, Settings, Steps}
use Rattle.grep_definitions.specs.Searches.{EndsUnread, IsReaderSearched}
use Rattle.grep_definitions.specs.SliceSearches.{IsSliceSearched}
use Rattle.grep_searcher.specs.SearchFailures.{EndsUndecoded}
use Rattle.grep_searcher.specs.SinkFolds.{FailsAtStep}

-- the matcher is lawful for the search, which isn't refused; the matcher may fail
pub record IsLawfulSearch {F : Type 0} (matcher : MatcherFacts F) (settings : Settings)
    : Type 0 where
  pub lawful : IsLawful matcher settings
  pub allowed : refusal_of settings matcher.meaning ≡ None

-- the matcher failed at a question, and the error is made of its error, as a message
abbrev pub FailsAtQuestion : {E F : Type 0} → ErrorMakers F E → MatcherFacts F → E → Type 0
FailsAtQuestion {E} {F} errors matcher e =
    (haystack : List ℕ) × (error : F) × matcher.fails haystack error × errors.is_message error e

-- an error of a search of a slice that isn't the sink's own: it is of the matcher's at a question, or
-- the slice has to be decoded and not all of it was
abbrev pub IsSliceFailure : {E F : Type 0} → ErrorMakers F E → MatcherFacts F → SearcherState
    → List ℕ → E → Type 0
IsSliceFailure errors matcher state input e =
    FailsAtQuestion errors matcher e ⊎ EndsUndecoded errors.is_io state matcher.meaning input e

-- the errors of a search, as an `io::Error` is made of them
abbrev pub io_error_makers : ErrorMakers (Option (List ℕ)) Error
io_error_makers = record {
  is_message = λ _ e. HasText e;
  is_io = λ error e. e ≡ error;
  is_config = IsConfigError;
}

module _ {S E F : Type 0} (step : Steps S E) (errors : ErrorMakers F E)
    (matcher : MatcherFacts F) where
  -- an error of a search of a slice is that of a step of the sink, or of a question, or the slice
  -- has to be decoded and not all of it was
  abbrev pub SlicesFailFor : Type 0
  SlicesFailFor =
      (state : SearcherState) (input : List ℕ) (old : S) (e : E) (new : S)
      → IsLawfulSearch matcher state.settings
      → IsSliceSearched step errors matcher state input old (Err e) new
      → FailsAtStep step errors matcher state.settings e new
      ⊎ IsSliceFailure errors matcher state input e

  -- and one of a reader that of a step, or of a question, or the reader wasn't read to its end
  abbrev pub ReadersFailFor : {R : Type 0} → (R → Option (List ℕ)) → (R → ReadResult → R → Type 0)
      → Type 0
  ReadersFailFor {R} remaining read_step =
      (state : SearcherState) (reader : R) (old : S) (e : E) (reader' : R) (new : S)
      → IsLawfulSearch matcher state.settings
      → IsReaderSearched remaining read_step step errors matcher state reader old
      (Err e) reader' new
      → FailsAtStep step errors matcher state.settings e new
      ⊎ (FailsAtQuestion errors matcher e
      ⊎ EndsUnread remaining read_step errors.is_io state matcher.meaning reader e reader')
