-- What a search of a window by line comes to, from where its walk is, whichever input the window
-- shows a part of. The contracts of private functions cite these definitions; no public contract
-- does.
use Rattle.std.specs.Prelude.{ℕ, List}
use Rattle.grep_definitions.specs.Plans.{Outcome, Settings, Steps, counted, line_plan}
use Rattle.grep_matcher.specs.Meanings.{MatcherFacts, Meaning}
use Rattle.grep_report.specs.ErrorMakers.{ErrorMakers}
use Rattle.grep_walk.specs.Origins.{IsMadeToFrom, Origin}
use Rattle.grep_walk.specs.WalkFaults.{IsWalkFault}
use Rattle.grep_walk.specs.Windows.{HasPassed, HasSearched}
use Rattle.grep_walk.specs.declared.walk.Walk.{Walk}

module _ {S E : Type 0} (step : Steps S E) (settings : Settings) where
  -- the walk passed all lines of the window
  abbrev pub PassesWindow : Meaning → List ℕ → ℕ → Walk → S → Walk → S → Type 0
  PassesWindow meaning window start w now w' now' =
      (gone input : List ℕ) (first : Origin S)
      → HasSearched step settings meaning gone window input first start w now
      → HasPassed step settings meaning gone window input first w' now'

  -- the search of the whole input ended within the window: all its calls but `finish` were made
  abbrev pub EndsInWindow : Meaning → List ℕ → ℕ → Walk → S → Walk → S → Type 0
  EndsInWindow meaning window start w now w' now' =
      (outcome : Outcome E) × ((gone input : List ℕ) (first : Origin S)
      → HasSearched step settings meaning gone window input first start w now
      → IsMadeToFrom step settings first (line_plan settings meaning input) outcome
      (counted w'.offset) now')

  -- it ended within the window in this error, the sink's or the matcher's
  abbrev pub FailsInWindow : {F : Type 0} → ErrorMakers F E → MatcherFacts F → List ℕ → ℕ → Walk
      → S → E → S → Type 0
  FailsInWindow errors matcher window start w now e now' =
      (gone input : List ℕ) (first : Origin S)
      → HasSearched step settings matcher.meaning gone window input first start w now
      → IsWalkFault step errors matcher settings input first e now'
