-- Laws of the lines of some bytes.
use Rattle.std.specs.Prelude.{◌≡◌, ℕ, ◌-◌, ◌<◌, ◌≤◌, ◌==◌, List, ◌++◌, length, take, slice_index}
use Rattle.std.specs.Prelude.{count_by}
use Rattle.grep_matcher.specs.Lines.{lines, line_start}
use Rattle.grep_matcher.specs.AreLines.{AreLines}

-- the lines have the four properties that say what lines are
abbrev pub LinesJoin : Type 0
LinesJoin = (t : ℕ) (bytes : List ℕ) → AreLines t bytes (lines t bytes)

-- no other pieces have them
abbrev pub LinesAreDetermined : Type 0
LinesAreDetermined =
    (t : ℕ) (bytes : List ℕ) (pieces : List (List ℕ)) → AreLines t bytes pieces
    → pieces ≡ lines t bytes

-- after bytes that are empty or end in a terminator the lines begin anew
abbrev pub LinesAppend : Type 0
LinesAppend =
    (t : ℕ) (front back : List ℕ) → (0 < length front → slice_index front (length front - 1) ≡ t)
    → lines t (front ++ back) ≡ lines t front ++ lines t back

-- as many terminators come before line i as there are lines before it
abbrev pub LinesAreNumbered : Type 0
LinesAreNumbered =
    (t : ℕ) (bytes : List ℕ) (i : ℕ) → i < length (lines t bytes)
    → count_by (λ b. b == t) (take (line_start t bytes i) bytes) ≡ i

-- there are at most as many lines as bytes
abbrev pub LinesAreFew : Type 0
LinesAreFew = (t : ℕ) (bytes : List ℕ) → length (lines t bytes) ≤ length bytes
