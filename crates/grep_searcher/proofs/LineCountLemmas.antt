-- What `Count` counted in a search by line.
use Rattle.std.proofs.Common.{◌∙◌, Option, List, ℕ}
use Rattle.grep_decode.specs.Source.{ReadResult}
use Rattle.grep_matcher.specs.Meanings.{MatcherFacts}
use Rattle.grep_report.specs.ErrorMakers.{ErrorMakers}
use Rattle.grep_definitions.specs.Searches.{searched_bytes}
use Rattle.grep_definitions.proofs.MatchCallLemmas.{matches-are_counted}
use Rattle.grep_searcher.proofs.SinkFoldLemmas.{known_readers-run, searches-run}
use Rattle.grep_searcher.specs.CountSinks.{IsCountStep}
use Rattle.grep_searcher.proofs.CountSinkLemmas.{runs-count_all}
use Rattle.grep_searcher.specs.LineCounts.{RunsCountLines, SlicesCountLines, ReadersCountLines}

pub runs-count_lines : (E : Type 0) → RunsCountLines E
runs-count_lines E settings meaning bytes by_line old new is_new run =
    runs-count_all E settings meaning bytes old new is_new run
    ∙ matches-are_counted settings meaning bytes by_line

module _ {F E : Type 0} (errors : ErrorMakers F E) (matcher : MatcherFacts F) where
  pub slices-count_lines : SlicesCountLines errors matcher
  slices-count_lines state input old new by is_new searched =
      runs-count_lines E state.settings matcher.meaning (searched_bytes state.settings input)
      by.by_line old new is_new
      (searches-run IsCountStep errors matcher state input old new by.undetected by.lawful searched)

  pub readers-count_lines : {R : Type 0} (remaining : R → Option (List ℕ)) (read_step : R
      → ReadResult → R → Type 0) → ReadersCountLines errors matcher remaining read_step
  readers-count_lines remaining read_step state reader input old reader' new by is_new all
      searched =
      runs-count_lines E state.settings matcher.meaning (searched_bytes state.settings input)
      by.by_line old new is_new
      (known_readers-run IsCountStep errors matcher remaining read_step state reader input old
      reader' new by.undetected all by.lawful searched)
