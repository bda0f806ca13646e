-- How far a search reads that its sink ended.
use Rattle.std.specs.Prelude.{◌≡◌, ℕ, ◌+◌, ◌-◌, ◌<◌, ◌≤◌, slice_get, Bool, true, false}
use Rattle.std.specs.Prelude.{if◌then◌else◌, List, [], ◌∷◌, ◌++◌, length, Option, None, Some, Ok}
use Rattle.std.specs.List.{concat}
use Rattle.grep_decode.specs.Source.{ReadResult}
use Rattle.grep_matcher.specs.Meanings.{MatcherFacts, Meaning}
use Rattle.grep_report.specs.ErrorMakers.{ErrorMakers}
use Rattle.grep_definitions.specs.Searches.{encoding_of, IsInput, IsReaderSearched, searched_bytes}
use Rattle.grep_definitions.specs.Searches.{Taken}
use Rattle.grep_definitions.specs.Plans.{first_below, line_count, start, is_selected, Settings}
use Rattle.grep_definitions.specs.Plans.{Call, search_plan, SearcherState}
use Rattle.grep_definitions.specs.SearchLaws.{match_calls, reported_to}
use Rattle.grep_definitions.specs.SliceSearches.{is_searched_unchanged}
use Rattle.grep_searcher.specs.LineCounts.{IsLineSearch}
use Rattle.grep_searcher.specs.MatchHandlers.{has_room, has_selected, IsFoundStep, IsHandlerStep}
use Rattle.grep_searcher.specs.MatchHandlers.{with_first}

-- of an input of which this is left, at most so many bytes were read
pub record IsReadUpTo (input : List ℕ) (left : Option (List ℕ)) (count : ℕ) : Type 0 where
  pub read : List ℕ
  pub rest : List ℕ
  pub all : input ≡ read ++ rest
  pub remaining : left ≡ Some rest
  pub bounded : length read ≤ count

-- the first of some calls, handled in order, after which the search doesn't go on
abbrev pub ending_call : {H : Type 0} → (H → Call → Bool) → (H → Call → H) → H → List Call
    → Option Call
ending_call goes next old [] = None
ending_call goes next old (call ∷ later) =
    if goes old call then ending_call goes next (next old call) later else Some call

-- `First` ends a search at the last match that it may keep
abbrev pub FirstEnds : Type 0
FirstEnds =
    (limit : ℕ) (calls : List Call) → 0 < limit
    → ending_call (λ old call. has_room (with_first old call)) with_first
    (record { limit = limit; kept = [] }) calls
    ≡ slice_get calls (limit - 1)

module _ {H E F : Type 0} (goes : H → Call → Bool) (next : H → Call → H)
    (fails : H → Call → E → H → Type 0) (errors : ErrorMakers F E) (matcher : MatcherFacts F) where
  -- whether the handler of a search by line ends it at this match
  abbrev pub EndsAt : Settings → List ℕ → H → Call → Type 0
  EndsAt settings bytes old last =
      ending_call goes next old (match_calls (search_plan settings matcher.meaning bytes).calls)
      ≡ Some last

  module _ {R : Type 0} (remaining : R → Option (List ℕ))
      (read_step : R → ReadResult → R → Type 0) where
    -- by line, a search of a reader that ended in `Ok`, and that the handler ended at a match:
    -- under a heap limit, of bytes that pass unchanged, at most one fill of the buffer was taken
    -- beyond the end of that match: as many bytes as the limit has, and the three in which a mark
    -- is looked for
    abbrev pub EndedReadersStop : Type 0
    EndedReadersStop =
        (state : SearcherState) (reader : R) (old : H) (reader' : R) (new : H)
        → IsLineSearch matcher state.settings
        → IsReaderSearched remaining read_step (IsHandlerStep goes next fails) errors matcher state
        reader old (Ok tt) reader' new
        → (taken : Taken remaining read_step reader reader')
        × ((bytes : List ℕ) → IsInput state.settings taken.ended taken.pieces bytes
        → (last : Call) (limit : ℕ) → EndsAt state.settings bytes old last
        → state.settings.heap_limit ≡ Some limit
        → encoding_of state.settings (concat taken.pieces) ≡ None
        → length (concat taken.pieces) ≤ reported_to last + limit + 3)

    -- of a reader that says which bytes remain, and whose input is searched as it is, no more were
    -- read
    abbrev pub EndedKnownReadersStop : Type 0
    EndedKnownReadersStop =
        (state : SearcherState) (reader : R) (input : List ℕ) (old : H) (reader' : R) (new : H)
        → IsLineSearch matcher state.settings → remaining reader ≡ Some input
        → IsReaderSearched remaining read_step (IsHandlerStep goes next fails) errors matcher state
        reader old (Ok tt) reader' new
        → (last : Call) (limit : ℕ) → EndsAt state.settings input old last
        → state.settings.heap_limit ≡ Some limit
        → is_searched_unchanged state.settings input ≡ true
        → IsReadUpTo input (remaining reader') (reported_to last + limit + 3)

-- under a heap limit, an input that is searched as it is was read at most one fill of the buffer
-- beyond the end of its first selected line: as many bytes as the limit has, and the three in which
-- a mark is looked for
abbrev pub IsReadToMatch : Settings → Meaning → List ℕ → Option (List ℕ) → Type 0
IsReadToMatch settings meaning input left =
    (limit i : ℕ) → settings.heap_limit ≡ Some limit
    → is_searched_unchanged settings input ≡ true
    → first_below (is_selected settings meaning input) (line_count settings input) ≡ Some i
    → IsReadUpTo input left (start settings input (i + 1) + limit + 3)

-- by line, a search of a reader that says which bytes remain, with a new `Found`, that ended in
-- `Ok`: it found a match exactly if a line is selected, and read no further
abbrev pub ReadersFindLines : {F E : Type 0} → ErrorMakers F E → MatcherFacts F → {R : Type 0}
    → (R → Option (List ℕ)) → (R → ReadResult → R → Type 0) → Type 0
ReadersFindLines errors matcher {R} remaining read_step =
    (state : SearcherState) (reader : R) (input : List ℕ) (old : Bool) (reader' : R) (new : Bool)
    → IsLineSearch matcher state.settings → old ≡ false → remaining reader ≡ Some input
    → IsReaderSearched remaining read_step IsFoundStep errors matcher state reader old
    (Ok tt) reader' new
    → (new
    ≡ has_selected state.settings matcher.meaning (searched_bytes state.settings input))
    × IsReadToMatch state.settings matcher.meaning input (remaining reader')
