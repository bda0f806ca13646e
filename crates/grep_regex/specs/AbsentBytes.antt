-- The bytes that a matcher knows no match to hold.
use Rattle.std.specs.Prelude.{ℕ, Bool, false, ◌&&◌, ◌||◌, not, ◌==◌, List, Option, None, Some}
use Rattle.std.specs.Prelude.{is_some, chars, length}
use Rattle.std.specs.List.{list_all, list_any}
use Rattle.regex_syntax.specs.Verdict.{is_meta}
use Rattle.grep_matcher.specs.declared.line_terminator.LineTerminator.{LineTerminator}
use Rattle.grep_matcher.specs.declared.line_terminator.LineTerminator.TheVariants.{Byte, Crlf}
use Rattle.grep_regex.specs.Clear.{is_among}
use Rattle.grep_regex.specs.Locality.{is_separator}
use Rattle.grep_regex.specs.declared.options.Options.{Options}

-- the pattern is read as its own text: it is a literal, or no character of it has a meaning of its
-- own in patterns
abbrev pub is_plain : Options → List ℕ → Bool
is_plain o pattern =
    o.fixed_strings || (not o.ignore_whitespace && not (list_any is_meta (chars pattern)))

-- each pattern matches its own text alone
abbrev pub are_literal : Options → List (List ℕ) → Bool
are_literal o patterns = not o.case_insensitive && list_all (is_plain o) patterns

-- none of the patterns is empty
abbrev pub are_filled : List (List ℕ) → Bool
are_filled patterns = list_all (λ p. not (length p == 0)) patterns

-- no match is only after the line feed that a line may keep under CRLF, as that of an empty pattern
-- may be if matches are words
abbrev pub keep_to_lines : Options → List (List ℕ) → Bool
keep_to_lines o patterns = not (o.crlf && o.word) || are_filled patterns

-- no line terminator is declared, and each match is one of the patterns as it is written, and not
-- only after a line
abbrev pub are_plain : Options → List (List ℕ) → Bool
are_plain o patterns = not (is_some o.line_terminator)
    && (not o.whole_line && (keep_to_lines o patterns && are_literal o patterns))

-- where the patterns are such: the ASCII bytes that aren't in words and that none of them has
abbrev pub is_unwritten : Options → List (List ℕ) → ℕ → Bool
is_unwritten o patterns byte = are_plain o patterns
    && (is_separator byte && not (list_any (λ p. is_among p byte) patterns))

-- the line terminator is the byte 0
abbrev pub is_nul : Option LineTerminator → Bool
is_nul None = false
is_nul (Some (Byte b)) = b == 0
is_nul (Some Crlf) = false

-- the bytes that a matcher knows no match to hold: the byte 0 if it is the line terminator, and
-- those that such patterns don't have
unfoldable pub is_absent : Options → List (List ℕ) → ℕ → Bool
is_absent o patterns byte = (is_nul o.line_terminator && byte == 0) || is_unwritten o patterns byte
