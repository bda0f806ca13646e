-- What a handler of matches makes of a search by line: it handles the lines that hit.
use Rattle.std.specs.Prelude.{◌≡◌, ℕ, Bool, true, List, [], ◌∷◌, ◌++◌, Option, Some, Ok}
use Rattle.grep_decode.specs.Source.{ReadResult}
use Rattle.grep_matcher.specs.Meanings.{MatcherFacts, Meaning}
use Rattle.grep_report.specs.ErrorMakers.{ErrorMakers}
use Rattle.grep_definitions.specs.Plans.{Call, reported_bytes, SearcherState, Settings}
use Rattle.grep_definitions.specs.Searches.{IsInput, IsReaderSearched, searched_bytes, Taken}
use Rattle.grep_searcher.specs.SinkFolds.{fold_while}
use Rattle.grep_definitions.specs.SliceSearches.{IsSliceSearched}
use Rattle.grep_searcher.specs.HitLines.{hit_lines, hit_matches, IsFilter}
use Rattle.grep_searcher.specs.LineCounts.{IsLineSearch}
use Rattle.grep_searcher.specs.MatchHandlers.{IsHandlerStep}

-- if the state is a function of the lines so far, of none and after each line, and the search
-- always goes on, it is after the lines that hit that function of them
abbrev pub LinesReach : {H : Type 0} → (H → Call → Bool) → (H → Call → H) → Type 0
LinesReach {H} goes next =
    (state_after : List (List ℕ) → H)
    → ((before : List (List ℕ)) (call : Call) → (goes (state_after before) call ≡ true)
    × (next (state_after before) call ≡ state_after (before ++ reported_bytes call ∷ [])))
    → (settings : Settings) (meaning : Meaning) (bytes : List ℕ) (old : H) → old ≡ state_after []
    → fold_while goes next old (hit_matches settings meaning bytes)
    ≡ state_after (hit_lines settings meaning bytes)

module _ {H E F : Type 0} (goes : H → Call → Bool) (next : H → Call → H)
    (fails : H → Call → E → H → Type 0) (errors : ErrorMakers F E) (matcher : MatcherFacts F) where
  -- the state after the lines of some bytes that hit were handled, up to the first after which the
  -- search doesn't go on
  abbrev pub after_hits : Settings → List ℕ → H → H
  after_hits settings bytes old =
      fold_while goes next old (hit_matches settings matcher.meaning bytes)

  -- a search of a slice that ended in `Ok` handled those of its decoded bytes
  abbrev pub SlicesHandleLines : Type 0
  SlicesHandleLines =
      (state : SearcherState) (input : List ℕ) (old new : H)
      → IsLineSearch matcher state.settings → IsFilter state.settings
      → IsSliceSearched (IsHandlerStep goes next fails) errors matcher state input old (Ok tt) new
      → new ≡ after_hits state.settings (searched_bytes state.settings input) old

  module _ {R : Type 0} (remaining : R → Option (List ℕ))
      (read_step : R → ReadResult → R → Type 0) where
    -- so did one of a reader that says which bytes remain
    abbrev pub KnownReadersHandleLines : Type 0
    KnownReadersHandleLines =
        (state : SearcherState) (reader : R) (input : List ℕ) (old : H) (reader' : R) (new : H)
        → IsLineSearch matcher state.settings → IsFilter state.settings
        → remaining reader ≡ Some input
        → IsReaderSearched remaining read_step (IsHandlerStep goes next fails) errors matcher state
        reader old (Ok tt) reader' new
        → new ≡ after_hits state.settings (searched_bytes state.settings input) old

    -- and one of any reader those of each input that begins with what was taken
    abbrev pub ReadersHandleLines : Type 0
    ReadersHandleLines =
        (state : SearcherState) (reader : R) (old : H) (reader' : R) (new : H)
        → IsLineSearch matcher state.settings → IsFilter state.settings
        → IsReaderSearched remaining read_step (IsHandlerStep goes next fails) errors matcher state
        reader old (Ok tt) reader' new
        → (taken : Taken remaining read_step reader reader')
        × ((bytes : List ℕ) → IsInput state.settings taken.ended taken.pieces bytes
        → new ≡ after_hits state.settings bytes old)
