-- Lines that have a byte that isn't ASCII.
use Rattle.std.specs.Prelude.{◌≡◌, ℕ, Bool, not, false, List, Some, count_by}
use Rattle.std.specs.Char.{is_ascii}
use Rattle.std.specs.List.{list_any}
use Rattle.std.specs.declared.io.Error.{Error}
use Rattle.grep_searcher.specs.declared.LineTerminator.TheVariants.{Byte}
use Rattle.grep_searcher.specs.FirstByteMatches.{first_byte}
use Rattle.grep_searcher.specs.LineMatches.{MatchesByLine}
use Rattle.grep_searcher.specs.Lines.{byte_of, lines, strip}
use Rattle.grep_searcher.specs.Meanings.{MatcherFacts, Meaning}
use Rattle.grep_searcher.specs.Plans.{Settings}
use Rattle.grep_searcher.specs.Searches.{searched_bytes}

abbrev pub is_high : ℕ → Bool
is_high byte = not (is_ascii byte)

-- the first match of a haystack is its first byte that isn't ASCII; a line feed is declared
abbrev pub non_ascii : Meaning
non_ascii = record {
  first = first_byte is_high;
  terminator = Some (Byte 10);
  absent = λ byte. false;
}

-- what is found in many lines is the end of the first match
abbrev pub non_ascii_facts : MatcherFacts Error
non_ascii_facts = record {
  meaning = non_ascii;
  fails = λ _ _. ⊥;
  is_lawful = MatchesByLine non_ascii;
}

-- how many lines of some bytes have, without their terminators, a byte that isn't ASCII
abbrev pub non_ascii_count : Settings → List ℕ → ℕ
non_ascii_count settings bytes =
    count_by (λ line. list_any is_high (strip settings.line_terminator line))
    (lines (byte_of settings.line_terminator) bytes)

-- so many lines of an input, decoded, have such a byte
abbrev pub IsNonAsciiCount : Settings → List ℕ → ℕ → Type 0
IsNonAsciiCount settings input count =
    count ≡ non_ascii_count settings (searched_bytes settings input)
