-- What a search comes to under any binary detection: a run along the plan of what is searched, with
-- `binary_data` where it comes, or an error.
use Rattle.std.specs.Prelude.{◌≡◌, ◌⊎◌, ℕ, true, false, List, length, Option, Some, Result, Ok, Err}
use Rattle.grep_decode.specs.Source.{ReadResult}
use Rattle.grep_matcher.specs.Meanings.{MatcherFacts}
use Rattle.grep_report.specs.ErrorMakers.{ErrorMakers}
use Rattle.grep_definitions.specs.Plans.{IsLawful, IsRun, Settings, SearcherState, Steps}
use Rattle.grep_definitions.specs.Searches.{BinaryPoint, IsCutSearch, IsInput, IsPoint}
use Rattle.grep_definitions.specs.Searches.{IsReaderSearch, IsReaderSearched, Look, look_of}
use Rattle.grep_definitions.specs.Searches.{plan_with, searched_bytes, viewed_plan}
use Rattle.grep_definitions.specs.SliceSearches.{IsSliceRead, IsSliceSearched}
use Rattle.grep_definitions.specs.SliceSearches.{is_searched_unchanged}
use Rattle.grep_searcher.specs.SearchFailures.{IsFaultless}

module _ {S E F : Type 0} (step : Steps S E) (errors : ErrorMakers F E)
    (matcher : MatcherFacts F) where
  -- a run along that plan, with `binary_data` where it comes if so many first bytes were seen
  pub record IsRunWith (settings : Settings) (look : Look) (bytes : List ℕ) (count : ℕ) (old : S)
      (result : Result (Unit {0}) E) (new : S) : Type 0 where
    pub point : Option BinaryPoint
    pub placed : IsPoint settings matcher.meaning bytes look count
        (viewed_plan settings matcher.meaning look bytes).calls point
    pub run : IsRun step settings old
        (plan_with settings.binary_detection point
        (viewed_plan settings matcher.meaning look bytes)) result new

  -- of a slice that is searched as it is, a search with a lawful matcher that ended in `Ok` is such
  -- a run for its bytes
  abbrev pub SlicesRunWith : Type 0
  SlicesRunWith =
      (state : SearcherState) (input : List ℕ) (old new : S)
      → is_searched_unchanged state.settings input ≡ true → IsLawful matcher state.settings
      → IsSliceSearched step errors matcher state input old (Ok tt) new
      → IsRunWith state.settings (look_of state.settings matcher.meaning true) input
      (length input) old (Ok tt) new

  module _ {R : Type 0} (remaining : R → Option (List ℕ)) (read_step : R → ReadResult → R → Type 0)
      (state : SearcherState) (reader : R) (old : S) where
    -- where binary bytes are looked for
    abbrev pub look : Look
    look = look_of state.settings matcher.meaning false

    -- a search of a reader is such a run for each input that begins with what was taken
    pub record IsReaderRunWith (result : Result (Unit {0}) E) (reader' : R) (new : S) : Type 0 where
      pub search : IsReaderSearch remaining read_step step errors matcher state look reader old
          result reader' new
      pub runs : (bytes : List ℕ)
          → IsInput state.settings search.taken.ended search.taken.pieces bytes
          → IsRunWith state.settings look bytes (length search.seen) old result new

    -- and if it is known which bytes remain, for their decoded bytes
    pub record IsKnownRunWith (input : List ℕ) (result : Result (Unit {0}) E) (reader' : R)
        (new : S) : Type 0 where
      pub search : IsReaderSearch remaining read_step step errors matcher state look reader old
          result reader' new
      pub runs : IsRunWith state.settings look (searched_bytes state.settings input)
          (length search.seen) old result new

  -- of a slice that is decoded, it is one of a reader that has its bytes
  abbrev pub DecodedSlicesRunWith : Type 0
  DecodedSlicesRunWith =
      (state : SearcherState) (input : List ℕ) (old new : S)
      → is_searched_unchanged state.settings input ≡ false → IsLawful matcher state.settings
      → IsSliceSearched step errors matcher state input old (Ok tt) new
      → (rest : List ℕ)
      × IsKnownRunWith (λ all. Some all) IsSliceRead state input old input (Ok tt) rest new

  -- if the matcher never fails and is lawful, and the search isn't refused, a search that ended in
  -- an error is such a run too, or the slice has to be decoded and wasn't to its end
  abbrev pub SlicesFailWith : Type 0
  SlicesFailWith =
      (state : SearcherState) (input : List ℕ) (old : S) (e : E) (new : S)
      → is_searched_unchanged state.settings input ≡ true → IsFaultless matcher state.settings
      → IsSliceSearched step errors matcher state input old (Err e) new
      → IsRunWith state.settings (look_of state.settings matcher.meaning true) input
      (length input) old (Err e) new

  abbrev pub DecodedSlicesFailWith : Type 0
  DecodedSlicesFailWith =
      (state : SearcherState) (input : List ℕ) (old : S) (e : E) (new : S)
      → is_searched_unchanged state.settings input ≡ false → IsFaultless matcher state.settings
      → IsSliceSearched step errors matcher state input old (Err e) new
      → (rest : List ℕ)
      × (IsKnownRunWith (λ all. Some all) IsSliceRead state input old input (Err e) rest new
      ⊎ IsCutSearch (λ all. Some all) IsSliceRead step errors matcher state
      (look_of state.settings matcher.meaning false) input old e rest new)

  module _ {R : Type 0} (remaining : R → Option (List ℕ))
      (read_step : R → ReadResult → R → Type 0) where
    -- a search of a reader with a lawful matcher that ended in `Ok` is such a run
    abbrev pub ReadersRunWith : Type 0
    ReadersRunWith =
        (state : SearcherState) (reader : R) (old : S) (reader' : R) (new : S)
        → IsLawful matcher state.settings
        → IsReaderSearched remaining read_step step errors matcher state reader old
        (Ok tt) reader' new
        → IsReaderRunWith remaining read_step state reader old (Ok tt) reader' new

    abbrev pub KnownReadersRunWith : Type 0
    KnownReadersRunWith =
        (state : SearcherState) (reader : R) (input : List ℕ) (old : S) (reader' : R) (new : S)
        → remaining reader ≡ Some input → IsLawful matcher state.settings
        → IsReaderSearched remaining read_step step errors matcher state reader old
        (Ok tt) reader' new
        → IsKnownRunWith remaining read_step state reader old input (Ok tt) reader' new

    -- so is one that ended in an error, or it is one of reading
    abbrev pub ReadersFailWith : Type 0
    ReadersFailWith =
        (state : SearcherState) (reader : R) (old : S) (e : E) (reader' : R) (new : S)
        → IsFaultless matcher state.settings
        → IsReaderSearched remaining read_step step errors matcher state reader old
        (Err e) reader' new
        → IsReaderRunWith remaining read_step state reader old (Err e) reader' new
        ⊎ IsCutSearch remaining read_step step errors matcher state
        (look_of state.settings matcher.meaning false) reader old e reader' new

    abbrev pub KnownReadersFailWith : Type 0
    KnownReadersFailWith =
        (state : SearcherState) (reader : R) (input : List ℕ) (old : S) (e : E) (reader' : R)
        (new : S) → remaining reader ≡ Some input → IsFaultless matcher state.settings
        → IsReaderSearched remaining read_step step errors matcher state reader old
        (Err e) reader' new
        → IsKnownRunWith remaining read_step state reader old input (Err e) reader' new
        ⊎ IsCutSearch remaining read_step step errors matcher state
        (look_of state.settings matcher.meaning false) reader old e reader' new
