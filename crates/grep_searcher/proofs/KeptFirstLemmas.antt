-- What `First` keeps of a search of a reader by line, and how far that reads.
use Rattle.std.proofs.Common.{◌≡◌, ℕ, zero, suc, ◌+◌, ◌-◌, ◌<◌, List, [], ◌∷◌, length, map, take}
use Rattle.std.proofs.Common.{arith, Option, Some, None, refl, sym, ap, subst, ◌∙◌}
use Rattle.std.proofs.lemmas.List.{take-map}
use Rattle.std.proofs.lemmas.Option.{slice_get-map}
use Rattle.std.specs.Prelude.{slice_get}
use Rattle.std.specs.Option.{option_map}
use Rattle.grep_decode.specs.Source.{ReadResult}
use Rattle.grep_matcher.specs.Meanings.{MatcherFacts}
use Rattle.grep_report.specs.ErrorMakers.{ErrorMakers}
use Rattle.grep_report.specs.declared.sink_error.SearchError.{SearchError}
use Rattle.grep_definitions.specs.Plans.{Call, search_plan}
use Rattle.grep_definitions.specs.Searches.{searched_bytes}
use Rattle.grep_definitions.specs.SearchLaws.{match_calls}
use Rattle.grep_searcher.proofs.SinkFoldLemmas.{known_readers-run}
use Rattle.grep_searcher.specs.BoundedReads.{ending_call, IsReadUpTo}
use Rattle.grep_searcher.specs.HitLines.{hit_matches}
use Rattle.grep_searcher.specs.KeptFirst.{ReadersKeepFirst}
use Rattle.grep_searcher.specs.MatchHandlers.{FirstReports, has_room, IsFirstStep, kept_of}
use Rattle.grep_searcher.specs.MatchHandlers.{KeptReport, LacksMemory, with_first}
use Rattle.grep_searcher.proofs.BoundedReadLemmas.{ended_known_readers-stop, first-ends}
use Rattle.grep_searcher.proofs.LineFilterLemmas.{lines-are_filtered}
use Rattle.grep_searcher.proofs.MatchHandlerLemmas.{runs-keep_first}

-- a report that is kept of one of some calls
kept-at : (calls : List Call) (i : ℕ) (last : KeptReport) → slice_get (map kept_of calls) i ≡ Some last
    → (call : Call) × (slice_get calls i ≡ Some call) × (kept_of call ≡ last)
kept-at calls i last is = go (slice_get calls i) refl (sym (slice_get-map kept_of calls i) ∙ is)
  where
    go : (found : Option Call) → slice_get calls i ≡ found → option_map kept_of found ≡ Some last
        → (call : Call) × (slice_get calls i ≡ Some call) × (kept_of call ≡ last)
    go None at made = absurd (let never = made in cc)
    go (Some call) at made = (call, at, let same = made in cc)

-- the first of some first items
first-taken : {X : Type 0} (count : ℕ) (items : List X) → 0 < count
    → slice_get (take count items) 0 ≡ slice_get items 0
first-taken zero items above = absurd (omega arith)
first-taken (suc count) [] above = refl
first-taken (suc count) (item ∷ items) above = refl

module _ {F A : Type 0} (errors : ErrorMakers F (SearchError A)) (matcher : MatcherFacts F)
    {R : Type 0} (remaining : R → Option (List ℕ)) (read_step : R → ReadResult → R → Type 0) where
  pub readers-keep_first : ReadersKeepFirst errors matcher remaining read_step
  readers-keep_first state reader input count old reader' new by free is_new all searched =
      let k = state.settings in
      let meaning = matcher.meaning in
      let all_bytes = searched_bytes k input in
      let first = ap (λ (first : FirstReports). first.kept) (runs-keep_first A k count old
      (search_plan k meaning all_bytes) new is_new
      (known_readers-run IsFirstStep errors matcher remaining read_step state reader input old reader'
      new by.undetected all by.lawful searched))
      ∙ ap (λ calls. map kept_of (take count calls))
      (lines-are_filtered k meaning all_bytes by.by_line free)
      ∙ sym (take-map kept_of count (hit_matches k meaning all_bytes)) in (
        first,
        λ limit last above limited as_it_is at.
            let found = kept-at (hit_matches k meaning input) (count - 1) last at in
            let ends : ending_call (λ from call. has_room (with_first from call)) with_first old
            (match_calls (search_plan k meaning input).calls) ≡ Some found.0 =
            ap (λ calls. ending_call (λ from call. has_room (with_first from call)) with_first old
            calls) (lines-are_filtered k meaning input by.by_line free)
            ∙ ap (λ from. ending_call (λ from call. has_room (with_first from call)) with_first from
            (hit_matches k meaning input)) is_new
            ∙ first-ends count (hit_matches k meaning input) above ∙ found.1 in
            subst (λ (kept : KeptReport). IsReadUpTo input (remaining reader')
            (kept.offset + length kept.bytes + limit + 3)) found.2
            (ended_known_readers-stop (λ from call. has_room (with_first from call)) with_first
            (LacksMemory {A = A}) errors matcher remaining read_step state reader input old reader'
            new by all searched found.0 limit ends limited as_it_is),
        λ above. ap (λ kept. slice_get kept 0) first ∙ first-taken count _ above,
      )
