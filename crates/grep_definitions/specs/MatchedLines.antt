-- Lines one after another that are each reported as a match.
use Rattle.std.specs.Prelude.{◌≡◌, ℕ, suc, ◌+◌, Bool, true, false, List, [], ◌∷◌, length, Option}
use Rattle.std.specs.Prelude.{Result, Ok, Err}
use Rattle.std.specs.Option.{option_map}
use Rattle.grep_matcher.specs.Lines.{lines}
use Rattle.grep_report.specs.SinkReports.{MatchReport, match_bytes, no_surroundings}
use Rattle.grep_definitions.specs.Plans.{AreMade, Planned, Settings, Steps, all_true, failed}
use Rattle.grep_definitions.specs.Plans.{matches, planned}

-- the calls that report lines of which the first comes so many lines after one with this number,
-- and begins at this offset
abbrev pub calls_of_lines : Option ℕ → ℕ → ℕ → List (List ℕ) → List Planned
calls_of_lines number index offset [] = []
calls_of_lines number index offset (line ∷ later) =
    planned (matches (option_map (λ first. first + index) number) offset line no_surroundings)
    (offset + length line)
    ∷ calls_of_lines number (suc index) (offset + length line) later

-- those that report the lines of a match
abbrev pub calls_of_match : MatchReport → List Planned
calls_of_match m = calls_of_lines m.line_number 0 m.offset (lines m.terminator (match_bytes m))

-- what came of calls that a sink takes at once or doesn't, by what it returned: all returned true,
-- or none was made, or one failed after others that returned true
abbrev pub AreTaken : {S E : Type 0} → Steps S E → Settings → S → List Planned → Result Bool E → S
    → Type 0
AreTaken step settings old calls (Ok true) new = AreMade step settings old calls all_true new
AreTaken step settings old calls (Ok false) new = new ≡ old
AreTaken step settings old calls (Err e) new = AreMade step settings old calls (failed e) new
