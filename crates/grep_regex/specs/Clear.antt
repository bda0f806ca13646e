-- The first match that holds none of some bytes.
use Rattle.std.specs.Prelude.{ℕ, Bool, not, ◌==◌, if◌then◌else◌, List, length, slice_range, Option}
use Rattle.std.specs.Prelude.{None}
use Rattle.std.specs.List.{list_any}
use Rattle.regex_hir.specs.Re.{Re, Rest, accept, attempt}
use Rattle.regex_hir.specs.Find.{Match, first_between}

-- whether a number is one of the bytes
abbrev pub is_among : List ℕ → ℕ → Bool
is_among bytes x = list_any (λ b. x == b) bytes

-- whether the haystack has none of the bytes from a position up to another
abbrev pub is_clear : List ℕ → List ℕ → ℕ → ℕ → Bool
is_clear bytes hay start end = not (list_any (is_among bytes) (slice_range hay start end))

-- what follows is tried where the match so far holds none of the bytes
abbrev pub if_clear : List ℕ → List ℕ → ℕ → Rest → Rest
if_clear bytes hay start rest end = if is_clear bytes hay start end then rest end else None

-- the leftmost match that starts at a position or after it and holds none of the bytes: at the
-- first position that has one, the one that the pattern prefers
unfoldable pub find_clear : List ℕ → Re → List ℕ → ℕ → Option Match
find_clear bytes re hay start =
    first_between (λ i. attempt hay re (if_clear bytes hay i accept) i) start (length hay)
