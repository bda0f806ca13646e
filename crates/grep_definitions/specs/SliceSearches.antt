-- What a search of a slice does: it is searched as it is, or as a reader that has its bytes.
use Rattle.std.specs.Prelude.{◌≡◌, ◌++◌, ℕ, Bool, true, false, List, length, Some, Result, Ok, Err}
use Rattle.std.specs.declared.io.Error.{Error}
use Rattle.grep_decode.specs.Source.{ReadResult}
use Rattle.grep_matcher.specs.Meanings.{Meaning, MatcherFacts}
use Rattle.grep_report.specs.ErrorMakers.{ErrorMakers}
use Rattle.grep_decode.specs.Decoded.{is_unchanged}
use Rattle.grep_definitions.specs.Searches.{Look, look_of, IsUnread, IsPoint, IsReaderSearched}
use Rattle.grep_definitions.specs.Searches.{IsSearchOf, IsUnlessRefusedBy}
use Rattle.grep_definitions.specs.Plans.{Steps, Settings, SearcherState, refusal_of, plan_in}
use Rattle.grep_definitions.specs.Plans.{is_across, IsAskedIn}

-- no label is set and no mark is found, so that the input is searched as it is
unfoldable pub is_searched_unchanged : Settings → List ℕ → Bool
is_searched_unchanged settings input = is_unchanged settings.encoding settings.bom_sniffing input

module _ {S E F : Type 0} (step : Steps S E) (errors : ErrorMakers F E) (matcher : MatcherFacts F)
    (settings : Settings) where
  -- whole contents, by line or across lines, by where binary bytes are looked for
  abbrev pub IsContentsSearch : Look → Bool → List ℕ → S → Result (Unit {0}) E → S → Type 0
  IsContentsSearch look across bytes =
      IsSearchOf step errors matcher settings
      (IsPoint settings matcher.meaning bytes look (length bytes))
      (IsAskedIn settings matcher.meaning bytes across) (λ plan outcome result. Unit {0})
      (plan_in settings matcher.meaning bytes across)

  -- a slice that is searched as it is
  abbrev pub IsSliceSearch : List ℕ → S → Result (Unit {0}) E → S → Type 0
  IsSliceSearch =
      IsContentsSearch (look_of settings matcher.meaning true) (is_across settings matcher.meaning)

-- a read of a slice gives bytes from its front, and none fails
abbrev pub IsSliceRead : List ℕ → ReadResult → List ℕ → Type 0
IsSliceRead old (Ok bytes) new = old ≡ bytes ++ new
IsSliceRead old (Err e) new = ⊥

module _ {S E F : Type 0} (step : Steps S E) (errors : ErrorMakers F E) (matcher : MatcherFacts F)
    (state : SearcherState) (input : List ℕ) where
  -- by whether it is searched as it is: if it isn't, it is read, and some of it may be left
  abbrev pub IsSliceSearchedIf : Bool → S → Result (Unit {0}) E → S → Type 0
  IsSliceSearchedIf true old result new =
      IsUnlessRefusedBy errors matcher state.settings old result new (Unit {0})
      (IsSliceSearch step errors matcher state.settings input old result new)
      (refusal_of state.settings matcher.meaning)
  IsSliceSearchedIf false old result new =
      (rest : List ℕ) × IsReaderSearched (λ all. Some all) IsSliceRead step errors matcher state
      input old result rest new

  -- what a search of a slice promises
  abbrev pub IsSliceSearched : S → Result (Unit {0}) E → S → Type 0
  IsSliceSearched = IsSliceSearchedIf (is_searched_unchanged state.settings input)

-- why a slice wasn't searched to its end: it has to be decoded, and not all of it was
abbrev pub IsUndecoded : SearcherState → Meaning → List ℕ → Bool → List ℕ → Error → Type 0
IsUndecoded state meaning input begun seen error =
    (is_searched_unchanged state.settings input ≡ false) × (rest : List ℕ)
    × IsUnread (λ all. Some all) IsSliceRead state meaning input begun seen error rest
