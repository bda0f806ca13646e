-- Where the lines of some bytes start and end.
use Rattle.std.specs.Prelude.{◌≡◌, ℕ, ◌+◌, ◌<◌, ◌≤◌, ◌==◌, List, [], length, take}
use Rattle.std.specs.Prelude.{slice_index_or, count_by}
use Rattle.grep_matcher.specs.Lines.{lines, line_start}
use Rattle.std.specs.Prelude.{slice_range}

-- line i starts at a position; after the last line that is the end of the bytes
pub record IsLineStart (t : ℕ) (bytes : List ℕ) (position i : ℕ) : Type 0 where
  pub listed : i ≤ length (lines t bytes)
  pub begins : line_start t bytes i ≡ position

-- line i of the list extends from one position up to another, and i terminators come before it
pub record IsLine (t : ℕ) (bytes : List ℕ) (i start end : ℕ) : Type 0 where
  pub listed : i < length (lines t bytes)
  pub begins : line_start t bytes i ≡ start
  pub ends : line_start t bytes (i + 1) ≡ end
  pub line : slice_index_or (lines t bytes) i [] ≡ slice_range bytes start end
  pub number : count_by (λ b. b == t) (take start bytes) ≡ i
  pub few : i ≤ start
  pub above : start < end
  pub within : end ≤ length bytes
