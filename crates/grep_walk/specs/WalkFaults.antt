-- How a walk over the lines of some bytes ends in an error. No contract of grep_searcher cites
-- these definitions.
use Rattle.std.specs.Prelude.{◌≡◌, ℕ, false, List, ◌++◌}
use Rattle.grep_definitions.specs.Plans.{line_plan, Settings, Planned, Steps, all_true, failed}
use Rattle.grep_definitions.specs.Plans.{IsAskedIn}
use Rattle.grep_report.specs.ErrorMakers.{ErrorMakers}
use Rattle.grep_matcher.specs.Meanings.{MatcherFacts}
use Rattle.grep_walk.specs.Origins.{AreMadeFrom, Origin}

-- in the sink's own error, that of the last call; or in the matcher's at a question, before which
-- the first calls were made
pub data IsWalkFault {S E F : Type 0} (step : Steps S E) (errors : ErrorMakers F E)
    (matcher : MatcherFacts F) (settings : Settings) (bytes : List ℕ) (first : Origin S) : E → S
    → Type 0 where
  at_call : {e : E} {new : S}
      → AreMadeFrom step settings first (line_plan settings matcher.meaning bytes).calls
      (failed e) new
      → IsWalkFault step errors matcher settings bytes first e new
  at_question : {e : E} {new : S} (haystack : List ℕ) (error : F) (made later : List Planned)
      → IsAskedIn settings matcher.meaning bytes false haystack made
      → (line_plan settings matcher.meaning bytes).calls ≡ made ++ later
      → matcher.fails haystack error → errors.is_message error e
      → AreMadeFrom step settings first made all_true new
      → IsWalkFault step errors matcher settings bytes first e new
