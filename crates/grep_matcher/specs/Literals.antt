-- What the matcher of a literal means.
use Rattle.std.specs.Prelude.{ℕ, Bool, ◌+◌, ◌&&◌, ◌==◌, not, nat_lt, if◌then◌else◌, List, length}
use Rattle.std.specs.Prelude.{Option, None}
use Rattle.std.specs.Option.{option_map}
use Rattle.std.specs.List.{list_any}
use Rattle.memchr.specs.Find.{matches, first_of}
use Rattle.grep_matcher.specs.declared.line_match_kind.LineMatchKind.{LineMatchKind}
use Rattle.grep_matcher.specs.declared.line_match_kind.LineMatchKind.TheVariants.{Confirmed}
use Rattle.grep_matcher.specs.declared.line_match_kind.LineMatchKind.TheVariants.{Candidate}
use Rattle.grep_matcher.specs.Meanings.{Meaning}

-- the first occurrence of the literal in a haystack: its start and its end
abbrev pub literal_match : List ℕ → List ℕ → Option (ℕ × ℕ)
literal_match literal haystack =
    option_map (λ start. (start, start + length literal)) (first_of (matches haystack literal 0))

-- whether a number is a byte that doesn't occur in the literal
abbrev pub lacks : List ℕ → ℕ → Bool
lacks literal byte = nat_lt byte 256 && not (list_any (λ b. b == byte) literal)

-- the first match is the literal's first occurrence; no terminator is declared; no match contains a
-- byte that the literal lacks
abbrev pub literal_meaning : List ℕ → Meaning
literal_meaning literal = record {
  first = literal_match literal;
  terminator = None;
  absent = lacks literal;
}

-- what is found in many lines: the start of the literal's first occurrence, as a candidate if the
-- literal has a carriage return, and confirmed otherwise
abbrev pub literal_candidate : List ℕ → List ℕ → Option LineMatchKind
literal_candidate literal haystack =
    option_map (λ m. if lacks literal 13 then Confirmed m.0 else Candidate m.0)
    (literal_match literal haystack)
