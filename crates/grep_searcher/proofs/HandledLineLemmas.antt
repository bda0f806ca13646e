-- What a handler of matches makes of a search by line.
use Rattle.std.proofs.Common.{Bool, List, [], ◌∷◌, map, ℕ, Option, Ok, ap, sym, ◌∙◌}
use Rattle.std.proofs.lemmas.List.{map-append}
use Rattle.grep_decode.specs.Source.{ReadResult}
use Rattle.grep_matcher.specs.Meanings.{MatcherFacts}
use Rattle.grep_report.specs.ErrorMakers.{ErrorMakers}
use Rattle.grep_definitions.specs.Plans.{Call, IsRun, reported_bytes, search_plan, Settings}
use Rattle.grep_definitions.specs.Searches.{searched_bytes}
use Rattle.grep_searcher.specs.SinkFolds.{fold_while}
use Rattle.grep_searcher.proofs.SinkFoldLemmas.{known_readers-run, reader_searches-run}
use Rattle.grep_searcher.proofs.SinkFoldLemmas.{calls-reach, searches-run}
use Rattle.grep_searcher.specs.HandledLines.{after_hits, KnownReadersHandleLines}
use Rattle.grep_searcher.specs.HandledLines.{LinesReach, ReadersHandleLines, SlicesHandleLines}
use Rattle.grep_searcher.specs.HitLines.{hit_matches, IsFilter}
use Rattle.grep_searcher.specs.LineCounts.{IsLineSearch}
use Rattle.grep_searcher.specs.MatchHandlers.{IsHandlerStep}
use Rattle.grep_searcher.proofs.LineFilterLemmas.{hits-are_lines, lines-are_filtered}
use Rattle.grep_searcher.proofs.MatchHandlerLemmas.{runs-handle}
use Rattle.std.proofs.Common.{◌≡◌}

pub lines-reach : {H : Type 0} (goes : H → Call → Bool) (next : H → Call → H)
    → LinesReach goes next
lines-reach goes next state_after by settings meaning bytes old new =
    calls-reach goes next (λ calls. state_after (map reported_bytes calls))
    (λ before call. let one = by (map reported_bytes before) call in (
      one.0,
      one.1 ∙ ap state_after (sym (map-append reported_bytes before (call ∷ []))),
    )) old (hit_matches settings meaning bytes) new
    ∙ ap state_after (hits-are_lines settings meaning bytes)

module _ {H E F : Type 0} (goes : H → Call → Bool) (next : H → Call → H)
    (fails : H → Call → E → H → Type 0) (errors : ErrorMakers F E) (matcher : MatcherFacts F) where
  runs-handle_hits : (settings : Settings) (bytes : List ℕ) (old new : H)
      → IsLineSearch matcher settings → IsFilter settings
      → IsRun (IsHandlerStep goes next fails) settings old
      (search_plan settings matcher.meaning bytes) (Ok tt) new
      → new ≡ after_hits goes next fails errors matcher settings bytes old
  runs-handle_hits settings bytes old new by free run =
      runs-handle goes next fails settings old (search_plan settings matcher.meaning bytes) new run
      ∙ ap (fold_while goes next old)
      (lines-are_filtered settings matcher.meaning bytes by.by_line free)

  pub slices-handle_lines : SlicesHandleLines goes next fails errors matcher
  slices-handle_lines state input old new by free searched =
      runs-handle_hits state.settings (searched_bytes state.settings input) old new by free
      (searches-run (IsHandlerStep goes next fails) errors matcher state input old new by.undetected
      by.lawful searched)

  module _ {R : Type 0} (remaining : R → Option (List ℕ))
      (read_step : R → ReadResult → R → Type 0) where
    pub known_readers-handle_lines : KnownReadersHandleLines goes next fails errors matcher
        remaining read_step
    known_readers-handle_lines state reader input old reader' new by free all searched =
        runs-handle_hits state.settings (searched_bytes state.settings input) old new by free
        (known_readers-run (IsHandlerStep goes next fails) errors matcher remaining read_step state
        reader input old reader' new by.undetected all by.lawful searched)

    pub readers-handle_lines : ReadersHandleLines goes next fails errors matcher remaining
        read_step
    readers-handle_lines state reader old reader' new by free searched =
        let run = reader_searches-run (IsHandlerStep goes next fails) errors matcher remaining
        read_step state reader old reader' new by.undetected by.lawful searched in (
          run.0.taken,
          λ bytes input.
              runs-handle_hits state.settings bytes old new by free (run.1 bytes input),
        )
