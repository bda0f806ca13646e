-- Lines in a row that a sink takes at once, by what it makes of one line. A method of a sink can't
-- call a law of that sink, so a lemma says what follows.
use Rattle.std.specs.Prelude.{ℕ, true, List, Option, Ok}
use Rattle.std.specs.List.{fold}
use Rattle.grep_matcher.specs.Lines.{lines}
use Rattle.grep_report.specs.SinkReports.{match_bytes, MatchReport, no_surroundings}
use Rattle.grep_definitions.specs.MatchedLines.{AreTaken, calls_of_match}
use Rattle.grep_definitions.specs.Plans.{matches, Settings, Steps}

module _ {S E : Type 0} (step : Steps S E) (next : S → List ℕ → S) where
  -- a match of one line goes on, and changes the state by this function of it and of the line
  abbrev pub StepsAtLines : Type 0
  StepsAtLines =
      (old : S) (settings : Settings) (number : Option ℕ) (offset : ℕ) (line : List ℕ)
      → step old settings (matches number offset line no_surroundings) (Ok true) (next old line)

  -- then a sink has taken lines at once, and goes on, if its state is the fold over them
  abbrev pub LinesAreTaken : Type 0
  LinesAreTaken =
      StepsAtLines → (settings : Settings) (old : S) (found : MatchReport)
      → AreTaken step settings old (calls_of_match found) (Ok true)
      (fold next old (lines found.terminator (match_bytes found)))
