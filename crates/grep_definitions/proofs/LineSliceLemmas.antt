-- The bytes of a line as a part of all bytes, and the report of a line that is a match.
use Rattle.std.proofs.Common.{◌≡◌, ℕ, ◌+◌, ◌-◌, ◌<◌, List, [], ◌∷◌, Some, None, refl, sym, ap, ◌∙◌}
use Rattle.std.proofs.Common.{arith, length, ⊎_elim, if◌then◌else◌}
use Rattle.std.proofs.lemmas.Bool.{cases_lt}
use Rattle.std.proofs.lemmas.List.{get_or_past, take_all}
use Rattle.std.specs.Prelude.{drop, take, slice_range}
use Rattle.std.specs.List.{concat}
use Rattle.grep_matcher.specs.Lines.{lines, byte_of}
use Rattle.grep_matcher.specs.Meanings.{Meaning}
use Rattle.grep_definitions.specs.Plans.{selected_lines, matches, planned, line, line_count}
use Rattle.grep_definitions.specs.Plans.{matched, number, start, Settings, report}
use Rattle.grep_lines.proofs.LineStepLemmas.{IsStep-line, lines-numbered}
use Rattle.grep_definitions.specs.SearchLaws.{number_of}
use Rattle.grep_report.specs.SinkReports.{no_surroundings}

module _ (k : Settings) (bytes : List ℕ) where
  -- the bytes of a line, also past the last one
  pub slice-line : (i : ℕ) → slice_range bytes (start k bytes i) (start k bytes (i + 1))
      ≡ line k bytes i
  slice-line i = ⊎_elim
      (λ inside. sym (IsStep-line (byte_of k.line_terminator) bytes i inside).line) (λ past.
      let all : List (List ℕ) = lines (byte_of k.line_terminator) bytes in
      let none : line k bytes i ≡ [] = get_or_past all i [] past in
      let same : start k bytes (i + 1) ≡ start k bytes i = ap (λ ls. length (concat ls))
      (take_all (i + 1) all (omega arith) ∙ sym (take_all i all past)) in
      let nothing : start k bytes (i + 1) - start k bytes i ≡ 0 = omega arith in
      ap (λ m. take m (drop (start k bytes i) bytes)) nothing ∙ sym none)
      (cases_lt i (line_count k bytes))

  -- the number of a line
  pub number-line : (i : ℕ) → i < line_count k bytes → number k bytes i ≡ number_of k i
  number-line i inside =
      ap (λ c. if k.line_number then Some (c + 1) else None)
      (lines-numbered (byte_of k.line_terminator) bytes i inside)

  -- by line a match is reported with its line
  pub line-report : (meaning : Meaning) (i : ℕ) → report k bytes (selected_lines k meaning bytes) i
      (Some matched)
      ≡ planned (matches (number k bytes i) (start k bytes i) (line k bytes i) no_surroundings)
      (start k bytes (i + 1)) ∷ []
  line-report meaning i = rw (slice-line i) refl
