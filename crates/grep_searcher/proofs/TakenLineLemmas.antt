-- Lines in a row that a sink takes at once, by what it makes of one line.
use Rattle.std.proofs.Common.{ℕ, suc, ◌+◌, List, [], ◌∷◌, length, refl, inl, Option}
use Rattle.std.specs.List.{fold}
use Rattle.std.specs.Option.{option_map}
use Rattle.grep_matcher.specs.Lines.{lines}
use Rattle.grep_report.specs.SinkReports.{match_bytes}
use Rattle.grep_definitions.specs.MatchedLines.{calls_of_lines}
use Rattle.grep_definitions.specs.Plans.{all_true, AreMade, Settings, Steps}
use Rattle.grep_searcher.specs.TakenLines.{LinesAreTaken, StepsAtLines}

module _ {S E : Type 0} (step : Steps S E) (next : S → List ℕ → S) where
  lines-made : StepsAtLines step next → (settings : Settings) (number : Option ℕ)
      (index offset : ℕ) (later : List (List ℕ)) (old : S)
      → AreMade step settings old (calls_of_lines number index offset later) all_true
      (fold next old later)
  lines-made by settings number index offset [] old = (refl, refl)
  lines-made by settings number index offset (line ∷ later) old = inl (
    next old line,
    by old settings (option_map (λ first. first + index) number) offset line,
    lines-made by settings number (suc index) (offset + length line) later (next old line),
  )

  pub lines-are_taken : LinesAreTaken step next
  lines-are_taken by settings old found =
      lines-made by settings found.line_number 0 found.offset
      (lines found.terminator (match_bytes found)) old
