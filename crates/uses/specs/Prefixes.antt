-- Lines that start with a prefix.
use Rattle.std.specs.Prelude.{ℕ, nat_eq, if◌then◌else◌, List, length, count_by, Some, None}
use Rattle.std.specs.List.{starts_with}
use Rattle.std.specs.declared.io.Error.{Error}
use Rattle.grep_searcher.specs.FindResults.{plain}
use Rattle.grep_searcher.specs.Lines.{byte_of, lines, strip}
use Rattle.grep_searcher.specs.Meanings.{MatcherFacts}
use Rattle.grep_searcher.specs.Plans.{Settings}

-- a haystack that starts with the prefix has one match, the prefix; no terminator is declared
abbrev pub prefix_facts : List ℕ → MatcherFacts Error
prefix_facts prefix = record {
  meaning = plain (λ haystack.
      if starts_with nat_eq haystack prefix then Some (0, length prefix) else None);
  fails = λ _ _. ⊥;
  is_lawful = λ _. Unit {0};
}

-- how many lines of some bytes, without their terminators, start with a prefix
abbrev pub prefixed_count : Settings → List ℕ → List ℕ → ℕ
prefixed_count settings prefix bytes =
    count_by (λ line. starts_with nat_eq (strip settings.line_terminator line) prefix)
    (lines (byte_of settings.line_terminator) bytes)
