-- What patterns mean under their options.
use Rattle.std.specs.Prelude.{◌≡◌, ◌<◌, ◌≤◌, ℕ, max, true, false, if◌then◌else◌, List, []}
use Rattle.std.specs.Prelude.{◌∷◌, map}
use Rattle.std.specs.Prelude.{length, Option, None, Some, IsSomeAnd, All, option_map, chars}
use Rattle.std.specs.Prelude.{encode_utf8_all}
use Rattle.regex_hir.specs.Find.{Match, find}
use Rattle.regex_hir.specs.Meaning.{alt_all}
use Rattle.regex_hir.specs.Re.{Re, empty, byte_in, look, cat}
use Rattle.regex_hir.specs.declared.look.Look.{Look}
use Rattle.regex_hir.specs.declared.look.Look.TheVariants.{StartLf, EndLf, StartCrlf, EndCrlf}
use Rattle.regex_hir.specs.declared.look.Look.TheVariants.{WordStartHalfAscii, WordEndHalfAscii}
use Rattle.regex_hir.specs.declared.look.Look.TheVariants.{WordStartHalfUnicode, WordEndHalfUnicode}
use Rattle.regex_syntax.specs.Brackets.{Nested}
use Rattle.regex_syntax.specs.Grammar.{Names, read}
use Rattle.regex_syntax.specs.Verdict.{default_config, default_flags, escaped_text}
use Rattle.regex_syntax.specs.declared.Config.{Config}
use Rattle.regex_vm.specs.Found.{group_cells, span}
use Rattle.grep_matcher.specs.FindResults.{Avoids}
use Rattle.grep_matcher.specs.Meanings.{Meaning}
use Rattle.grep_matcher.specs.Lines.{bytes_of}
use Rattle.grep_matcher.specs.declared.line_terminator.LineTerminator.{LineTerminator}
use Rattle.grep_regex.specs.AbsentBytes.{is_absent, is_nul}
use Rattle.grep_regex.specs.Clear.{find_clear}
use Rattle.grep_regex.specs.Seen.{seen_bytes}
use Rattle.grep_regex.specs.declared.options.Options.{Options}

-- the options that a builder begins with
abbrev pub default_options : Options
default_options = record {
  case_insensitive = false;
  fixed_strings = false;
  word = false;
  whole_line = false;
  multi_line = false;
  dot_matches_new_line = false;
  unicode = true;
  crlf = false;
  swap_greed = false;
  ignore_whitespace = false;
  octal = false;
  nest_limit = 250;
  line_terminator = None;
  size_limit = 50331648;
}

-- how a text is read; of a literal no white space is ignored
abbrev pub config_of : Options → Config
config_of o = record default_config {
  flags = record default_flags {
    case_insensitive = o.case_insensitive;
    multi_line = o.multi_line;
    dot_matches_new_line = o.dot_matches_new_line;
    swap_greed = o.swap_greed;
    unicode = o.unicode;
    crlf = o.crlf;
    ignore_whitespace = if o.fixed_strings then false else o.ignore_whitespace;
  };
  octal = o.octal;
  utf8 = false;
  nest_limit = o.nest_limit;
}

-- the escape of a literal
abbrev pub escape_of : List ℕ → List ℕ
escape_of literal = encode_utf8_all (escaped_text (chars literal))

-- the text that is read: of a literal, its escape
abbrev pub text_of : Options → List ℕ → List ℕ
text_of o pattern = if o.fixed_strings then escape_of pattern else pattern

-- what the grammar reads in a text; nothing matches a text that is no pattern
abbrev pub re_of : Option (Nested Re × Names) → Re
re_of None = byte_in []
re_of (Some (re, names)) = re.value

abbrev pub read_re : Options → List ℕ → Re
read_re o pattern = re_of (read (config_of o) (chars (text_of o pattern)))

-- the text is a pattern, nested no deeper than the limit
abbrev pub IsPattern : Config → List ℕ → Type 0
IsPattern config text =
    IsSomeAnd (read config (chars text)) (λ (re, names). re.depth ≤ config.nest_limit)

-- so is what is read of each of the texts
abbrev pub ArePatterns : Options → List (List ℕ) → Type 0
ArePatterns o patterns = All (λ p. IsPattern (config_of o) (text_of o p)) patterns

-- how many groups were read, group 0 included
abbrev pub groups_in : Option (Nested Re × Names) → ℕ
groups_in None = 0
groups_in (Some (re, names)) = length names

abbrev pub groups_of : Options → List ℕ → ℕ
groups_of o pattern = groups_in (read (config_of o) (chars (text_of o pattern)))

-- the most groups that one of the patterns has, group 0 included
abbrev pub most_groups : Options → List (List ℕ) → ℕ
most_groups o [] = 1
most_groups o (p ∷ patterns) = max (groups_of o p) (most_groups o patterns)

-- a pattern between two assertions
abbrev pub between : Look → Look → Re → Re
between before after re = cat (look before) (cat re (cat (look after) empty))

-- a pattern within what the options put around it
abbrev pub framed : Options → Re → Re
framed o re =
    if o.whole_line then
    (if o.crlf then between StartCrlf EndCrlf re else between StartLf EndLf re)
    else if o.word then
    (if o.unicode then between WordStartHalfUnicode WordEndHalfUnicode re
    else between WordStartHalfAscii WordEndHalfAscii re)
    else re

-- the alternation of the patterns, within what the options put around it
abbrev pub written_re : Options → List (List ℕ) → Re
written_re o patterns = framed o (alt_all (map (read_re o) patterns))

-- the bytes that no match holds: those of the line terminator, if there is one
abbrev pub excluded_bytes : Option LineTerminator → List ℕ
excluded_bytes None = []
excluded_bytes (Some terminator) = bytes_of terminator

-- the first match of a text, all of which is seen, that starts at a position or after it, by its
-- start and its end: the leftmost that holds no excluded byte, and of those the one that the
-- pattern prefers; what is before the position is seen by assertions
abbrev pub text_match_at : Options → List (List ℕ) → List ℕ → ℕ → Option (ℕ × ℕ)
text_match_at o patterns text start = option_map span
    (find_clear (excluded_bytes o.line_terminator) (written_re o patterns) text start)

-- the first match of a haystack that starts at a position or after it: that of what is seen of it
abbrev pub first_match_at : Options → List (List ℕ) → List ℕ → ℕ → Option (ℕ × ℕ)
first_match_at o patterns haystack start =
    text_match_at o patterns (seen_bytes o.line_terminator haystack) start

-- the first match of a haystack
abbrev pub first_match : Options → List (List ℕ) → List ℕ → Option (ℕ × ℕ)
first_match o patterns haystack = first_match_at o patterns haystack 0

-- the line terminator that a matcher names: none for the byte 0, which is absent from its matches
abbrev pub named_terminator : Option LineTerminator → Option LineTerminator
named_terminator terminator = if is_nul terminator then None else terminator

-- what a matcher of the patterns means
abbrev pub meaning_of : Options → List (List ℕ) → Meaning
meaning_of o patterns = record {
  first = first_match o patterns;
  terminator = named_terminator o.line_terminator;
  absent = is_absent o patterns;
}

-- the leftmost match of a pattern from a position on, with no regard to bytes
abbrev pub leftmost_match_at : Re → List ℕ → ℕ → Option (ℕ × ℕ)
leftmost_match_at re haystack start = option_map span (find re haystack start)

-- what is seen of a match with so many cells of groups: its span, and the cells
abbrev pub captured : ℕ → Match → (ℕ × ℕ) × List ℕ
captured count m = (span m, group_cells m count)

-- the pattern finds in each text, from each position on, where the patterns match
pub record FindsSpans (o : Options) (patterns : List (List ℕ)) (re : Re) : Type 0 where
  pub at : (text : List ℕ) (start : ℕ) → All (λ x. x < 256) text → start ≤ length text →
      leftmost_match_at re text start ≡ text_match_at o patterns text start

-- the pattern finds in each text, from each position on, what the patterns find there,
-- with the same groups
pub record FindsAs (o : Options) (patterns : List (List ℕ)) (re : Re) : Type 0 where
  pub at : (text : List ℕ) (start : ℕ) → All (λ x. x < 256) text → start ≤ length text →
      leftmost_match_at re text start ≡ text_match_at o patterns text start
  pub captures : (count : ℕ) (text : List ℕ) (start : ℕ) → All (λ x. x < 256) text
      → start ≤ length text →
      option_map (captured count) (find re text start) ≡ option_map (captured count)
      (find_clear (excluded_bytes o.line_terminator) (written_re o patterns) text start)

-- what the patterns find holds none of their absent bytes
pub record AvoidsAbsent (o : Options) (patterns : List (List ℕ)) : Type 0 where
  pub at : (text : List ℕ) (start : ℕ) → All (λ x. x < 256) text → start ≤ length text →
      Avoids (is_absent o patterns) text (text_match_at o patterns text start)
