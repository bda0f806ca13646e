-- What `First` keeps of a search of a reader by line, and how far that reads.
use Rattle.std.specs.Prelude.{◌≡◌, ℕ, ◌+◌, ◌-◌, ◌<◌, true, List, [], length, take, Option, Some, Ok}
use Rattle.std.specs.Prelude.{slice_get}
use Rattle.grep_decode.specs.Source.{ReadResult}
use Rattle.grep_matcher.specs.Meanings.{MatcherFacts}
use Rattle.grep_report.specs.ErrorMakers.{ErrorMakers}
use Rattle.grep_report.specs.SearchErrors.{IsMessageOf}
use Rattle.grep_report.specs.declared.sink_error.SearchError.{SearchError}
use Rattle.grep_report.specs.declared.sink_error.SearchError.TheVariants.{Io, Config}
use Rattle.grep_definitions.specs.Plans.{SearcherState}
use Rattle.grep_definitions.specs.Searches.{IsReaderSearched, searched_bytes}
use Rattle.grep_definitions.specs.SliceSearches.{is_searched_unchanged}
use Rattle.grep_searcher.specs.BoundedReads.{IsReadUpTo}
use Rattle.grep_searcher.specs.HitLines.{IsFilter, kept_hits}
use Rattle.grep_searcher.specs.LineCounts.{IsLineSearch}
use Rattle.grep_searcher.specs.MatchHandlers.{FirstReports, IsFirstStep, KeptReport}

-- the errors of such a search, as `SearchError` makes them
abbrev pub search_error_makers : {A : Type 0} → ErrorMakers (Option (List ℕ)) (SearchError A)
search_error_makers = record {
  is_message = IsMessageOf;
  is_io = λ error e. e ≡ Io error;
  is_config = λ error e. e ≡ Config error;
}

-- a search of a reader that says which bytes remain, with a new `First`, that ended in `Ok`, kept
-- the first lines that hit, and of these the first first; under a heap limit, of an input that is
-- searched as it is, at most one fill of the buffer was read beyond the last that it may keep
abbrev pub ReadersKeepFirst : {F A : Type 0} → ErrorMakers F (SearchError A) → MatcherFacts F
    → {R : Type 0} → (R → Option (List ℕ)) → (R → ReadResult → R → Type 0) → Type 0
ReadersKeepFirst errors matcher {R} remaining read_step =
    (state : SearcherState) (reader : R) (input : List ℕ) (count : ℕ) (old : FirstReports)
    (reader' : R) (new : FirstReports)
    → IsLineSearch matcher state.settings → IsFilter state.settings
    → old ≡ record { limit = count; kept = [] } → remaining reader ≡ Some input
    → IsReaderSearched remaining read_step IsFirstStep errors matcher state reader old
    (Ok tt) reader' new
    → (new.kept
    ≡ take count (kept_hits state.settings matcher.meaning (searched_bytes state.settings input)))
    × ((limit : ℕ) (last : KeptReport) → 0 < count → state.settings.heap_limit ≡ Some limit
    → is_searched_unchanged state.settings input ≡ true
    → slice_get (kept_hits state.settings matcher.meaning input) (count - 1) ≡ Some last
    → IsReadUpTo input (remaining reader') (last.offset + length last.bytes + limit + 3))
    × (0 < count → slice_get new.kept 0
    ≡ slice_get (kept_hits state.settings matcher.meaning (searched_bytes state.settings input)) 0)
