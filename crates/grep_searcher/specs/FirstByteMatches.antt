-- A matcher of the first byte that passes a test.
use Rattle.std.specs.Prelude.{◌≡◌, ℕ, ◌+◌, Bool, false, List, Option, is_some}
use Rattle.std.specs.List.{list_any, position}
use Rattle.std.specs.Option.{option_map}
use Rattle.grep_matcher.specs.declared.line_terminator.LineTerminator.TheVariants.{Byte}
use Rattle.grep_matcher.specs.LineMatches.{MatchesByLine}
use Rattle.grep_matcher.specs.Meanings.{Meaning}

-- a match of one byte, and the first byte of a haystack that passes a test
abbrev pub one_byte : ℕ → ℕ × ℕ
one_byte i = (i, i + 1)

abbrev pub first_byte : (ℕ → Bool) → List ℕ → Option (ℕ × ℕ)
first_byte passes haystack = option_map one_byte (position passes haystack)

-- there is such a match if any byte passes
abbrev pub FirstBytesAreFound : Type 0
FirstBytesAreFound =
    (passes : ℕ → Bool) (bytes : List ℕ) → is_some (first_byte passes bytes) ≡ list_any passes bytes

-- if a line feed doesn't pass, a matcher of it matches by line
abbrev pub FirstBytesMatchByLine : Type 0
FirstBytesMatchByLine =
    (passes : ℕ → Bool) (meaning : Meaning) → passes 10 ≡ false
    → ((bytes : List ℕ) → meaning.first bytes ≡ first_byte passes bytes)
    → MatchesByLine meaning (Byte 10)
