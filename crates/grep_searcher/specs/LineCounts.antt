-- What `Count` counted in a search by line.
use Rattle.std.specs.Prelude.{◌≡◌, ℕ, false, List, Option, Some, Ok}
use Rattle.grep_decode.specs.Source.{ReadResult}
use Rattle.grep_matcher.specs.Meanings.{MatcherFacts, Meaning}
use Rattle.grep_report.specs.declared.binary_detection.BinaryDetection.TheVariants.{
  None as no_detection,
}
use Rattle.grep_report.specs.ErrorMakers.{ErrorMakers}
use Rattle.grep_definitions.specs.Plans.{is_across, IsLawful, search_plan, IsRun, count_below}
use Rattle.grep_definitions.specs.Plans.{reports_end, Settings, SearcherState}
use Rattle.grep_definitions.specs.Searches.{searched_bytes, IsReaderSearched}
use Rattle.grep_definitions.specs.SearchLaws.{is_matched}
use Rattle.grep_definitions.specs.SliceSearches.{IsSliceSearched}
use Rattle.grep_searcher.specs.CountSinks.{IsCountStep}

-- a search by line without binary detection, with a matcher that is lawful for it
pub record IsLineSearch {F : Type 0} (matcher : MatcherFacts F) (settings : Settings) : Type 0 where
  pub lawful : IsLawful matcher settings
  pub by_line : is_across settings matcher.meaning ≡ false
  pub undetected : settings.binary_detection ≡ no_detection

-- how many lines are matched: selected, or trailing after a selected one
abbrev pub matched_count : Settings → Meaning → List ℕ → ℕ
matched_count settings meaning bytes =
    count_below (is_matched settings meaning bytes) (reports_end settings meaning bytes)

-- by line, a run of a new `Count` that ended in `Ok` counted the matched lines
abbrev pub RunsCountLines : Type 0 → Type 0
RunsCountLines E =
    (settings : Settings) (meaning : Meaning) (bytes : List ℕ) → is_across settings meaning ≡ false
    → (old new : ℕ) → old ≡ 0
    → IsRun {E = E} IsCountStep settings old (search_plan settings meaning bytes) (Ok tt) new
    → new ≡ matched_count settings meaning bytes

-- the matched lines of the decoded bytes were counted
abbrev pub IsLineCount : {F : Type 0} → MatcherFacts F → Settings → List ℕ → ℕ → Type 0
IsLineCount matcher settings input count =
    count ≡ matched_count settings matcher.meaning (searched_bytes settings input)

module _ {F E : Type 0} (errors : ErrorMakers F E) (matcher : MatcherFacts F) where
  -- a search of a slice with a new `Count` that ended in `Ok` counted them
  abbrev pub SlicesCountLines : Type 0
  SlicesCountLines =
      (state : SearcherState) (input : List ℕ) (old new : ℕ)
      → IsLineSearch matcher state.settings → old ≡ 0
      → IsSliceSearched IsCountStep errors matcher state input old (Ok tt) new
      → IsLineCount matcher state.settings input new

  -- a search of a reader that says which bytes remain counted them too
  abbrev pub ReadersCountLines : {R : Type 0} → (R → Option (List ℕ))
      → (R → ReadResult → R → Type 0) → Type 0
  ReadersCountLines {R} remaining read_step =
      (state : SearcherState) (reader : R) (input : List ℕ) (old : ℕ) (reader' : R) (new : ℕ)
      → IsLineSearch matcher state.settings → old ≡ 0 → remaining reader ≡ Some input
      → IsReaderSearched remaining read_step IsCountStep errors matcher state reader old
      (Ok tt) reader' new
      → IsLineCount matcher state.settings input new
