-- What the matchers for tests mean.
use Rattle.std.specs.Prelude.{ℕ, ◌==◌, false, List, length, Option, Some, None, if◌then◌else◌}
use Rattle.std.specs.Option.{option_or}
use Rattle.grep_matcher.specs.declared.line_terminator.LineTerminator.{LineTerminator}
use Rattle.grep_matcher.specs.Meanings.{Meaning}
use Rattle.grep_matcher.specs.Literals.{literal_match}

-- some first matches, with a terminator that is named and no byte set
abbrev pub naming : LineTerminator → (List ℕ → Option (ℕ × ℕ)) → Meaning
naming terminator first = record {
  first = first;
  terminator = Some terminator;
  absent = λ _. false;
}

-- the empty haystack matches, and no other
abbrev pub empty_match : List ℕ → Option (ℕ × ℕ)
empty_match haystack = if length haystack == 0 then Some (0, 0) else None

-- each haystack matches, at its end
abbrev pub end_match : List ℕ → Option (ℕ × ℕ)
end_match haystack = Some (length haystack, length haystack)

-- the match of the first literal, or else that of the second
abbrev pub either_match : List ℕ → List ℕ → List ℕ → Option (ℕ × ℕ)
either_match first second haystack =
    option_or (literal_match first haystack) (literal_match second haystack)
