-- A matcher that matches every line.
use Rattle.std.specs.Prelude.{◌≡◌, ℕ, false, List, Some}
use Rattle.std.specs.declared.io.Error.{Error}
use Rattle.grep_matcher.specs.FindResults.{plain}
use Rattle.grep_matcher.specs.Meanings.{MatcherFacts}
use Rattle.grep_definitions.specs.Plans.{Settings}
use Rattle.grep_matcher.specs.Lines.{byte_of, lines}
use Rattle.grep_searcher.specs.HitLines.{hit_lines, hit_matches, items_up_to, lines_as_matches}

-- each haystack has an empty match at its start; no terminator is declared, and nothing fails
abbrev pub every_line_facts : MatcherFacts Error
every_line_facts = record {
  meaning = plain (λ haystack. Some (0, 0));
  fails = λ _ _. ⊥;
  is_lawful = λ _. Unit {0};
}

-- without inversion all lines hit
abbrev pub EveryLineHits : Type 0
EveryLineHits =
    (settings : Settings) (bytes : List ℕ) → settings.invert_match ≡ false
    → hit_matches settings every_line_facts.meaning bytes
    ≡ items_up_to settings.max_matches (lines_as_matches settings bytes)

abbrev pub AllLinesHit : Type 0
AllLinesHit =
    (settings : Settings) (bytes : List ℕ) → settings.invert_match ≡ false
    → hit_lines settings every_line_facts.meaning bytes
    ≡ items_up_to settings.max_matches (lines (byte_of settings.line_terminator) bytes)
