-- Matchers that match by line: what they find in many lines is what they find in the first of them
-- that matches.
use Rattle.std.specs.Prelude.{◌≡◌, ℕ, ◌-◌, ◌<◌, List, ◌++◌, length, slice_index}
use Rattle.std.specs.Prelude.{Option, IfSome, is_some}
use Rattle.std.specs.Option.{option_map, option_or}
use Rattle.grep_matcher.specs.declared.line_match_kind.LineMatchKind.{LineMatchKind}
use Rattle.grep_matcher.specs.declared.line_match_kind.LineMatchKind.TheVariants.{Confirmed}
use Rattle.grep_matcher.specs.declared.line_terminator.LineTerminator.{LineTerminator}
use Rattle.grep_matcher.specs.AreLines.{IsUnbroken}
use Rattle.grep_matcher.specs.FindResults.{match_from}
use Rattle.grep_matcher.specs.Lines.{byte_of, strip}
use Rattle.grep_matcher.specs.Meanings.{Meaning}

-- a line that ends in t, and has it nowhere else
abbrev pub IsEndedLine : ℕ → List ℕ → Type 0
IsEndedLine t line =
    (0 < length line) × (slice_index line (length line - 1) ≡ t) × IsUnbroken t line

-- no match goes over the end of a line, and a line with its terminator has a match exactly if it
-- has one without: then the end of the first match in many lines is in the first line that matches
pub record MatchesByLine (meaning : Meaning) (terminator : LineTerminator) : Type 0 where
  -- the first match of a line and what follows it is that of the line, or else of what follows
  pub one_by_one : (line rest : List ℕ) → IsEndedLine (byte_of terminator) line
      → meaning.first (line ++ rest)
      ≡ option_or (meaning.first line) (match_from (length line) (meaning.first rest))
  -- a match of a line is over where the line's last byte begins, or sooner
  pub before_end : (line : List ℕ) → IsEndedLine (byte_of terminator) line
      → IfSome (meaning.first line) (λ m. m.1 < length line)
  -- a line without its terminator has a match exactly if it has one with it
  pub stripped : (line : List ℕ) → IsEndedLine (byte_of terminator) line
      → is_some (meaning.first (strip terminator line)) ≡ is_some (meaning.first line)

-- the end of a match, as a position whose line surely matches
abbrev pub confirmed_end : Option (ℕ × ℕ) → Option LineMatchKind
confirmed_end found = option_map (λ m. Confirmed m.1) found
