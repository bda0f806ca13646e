-- Laws of first matches.
use Rattle.std.specs.Prelude.{◌≡◌, ◌⊎◌, ℕ, ◌≤◌, true, List, [], ◌∷◌, ◌++◌, length, Some}
use Rattle.std.specs.Prelude.{nat_eq, false}
use Rattle.std.specs.List.{ends_with}
use Rattle.grep_matcher.specs.declared.line_terminator.LineTerminator.TheVariants.{Crlf}
use Rattle.grep_regex.specs.Clear.{is_clear}
use Rattle.grep_regex.specs.Groups.{groups_at}
use Rattle.grep_regex.specs.Patterns.{first_match_at, leftmost_match_at, written_re}
use Rattle.grep_regex.specs.Patterns.{excluded_bytes}
use Rattle.grep_regex.specs.Seen.{seen_bytes}
use Rattle.grep_regex.specs.declared.options.Options.{Options}

-- where no excluded byte follows a position in what is seen, the first match from it on is that of
-- the pattern itself
abbrev pub MatchesAsWritten : Type 0
MatchesAsWritten = (o : Options) (patterns : List (List ℕ)) (haystack : List ℕ) (from : ℕ) →
    let seen = seen_bytes o.line_terminator haystack in
    is_clear (excluded_bytes o.line_terminator) seen from (length seen) ≡ true →
    first_match_at o patterns haystack from ≡ leftmost_match_at (written_re o patterns) seen from

-- a match holds no excluded byte
abbrev pub MatchesAreClear : Type 0
MatchesAreClear = (o : Options) (patterns : List (List ℕ)) (haystack : List ℕ)
    (from start end : ℕ) → first_match_at o patterns haystack from ≡ Some (start, end) →
    is_clear (excluded_bytes o.line_terminator) haystack start end ≡ true

-- under CRLF a match lies before the line feed that ends the haystack, and before the carriage
-- return that is before that
abbrev pub MatchesEndWithLines : Type 0
MatchesEndWithLines = (o : Options) (patterns : List (List ℕ)) (line ending : List ℕ)
    (from start end : ℕ) → o.line_terminator ≡ Some Crlf →
    (ending ≡ 10 ∷ []) ⊎ (ending ≡ 13 ∷ 10 ∷ []) →
    first_match_at o patterns (line ++ ending) from ≡ Some (start, end) → end ≤ length line

-- under CRLF what ends a line makes no difference to its matches: a carriage return and a line
-- feed, or a line feed alone
abbrev pub LineEndsAreUnseen : Type 0
LineEndsAreUnseen = (o : Options) (patterns : List (List ℕ)) (line : List ℕ) (from : ℕ) →
    o.line_terminator ≡ Some Crlf → ends_with nat_eq line (10 ∷ []) ≡ false →
    (first_match_at o patterns (line ++ 13 ∷ 10 ∷ []) from ≡ first_match_at o patterns line from)
    × (ends_with nat_eq line (13 ∷ []) ≡ false →
    first_match_at o patterns (line ++ 10 ∷ []) from ≡ first_match_at o patterns line from)

-- the groups of the first match from a position on are those from the start of that match on
abbrev pub GroupsAreOfFirstMatch : Type 0
GroupsAreOfFirstMatch = (o : Options) (patterns : List (List ℕ)) (haystack : List ℕ)
    (from start end : ℕ) → first_match_at o patterns haystack from ≡ Some (start, end) →
    groups_at o patterns haystack start ≡ groups_at o patterns haystack from
