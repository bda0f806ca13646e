-- What is known of the last line start up to a position, while it is looked for.
use Rattle.std.specs.Prelude.{ℕ, ◌≤◌, List}
use Rattle.grep_lines.specs.FirstLine.{IsLastStart}
use Rattle.grep_lines.specs.declared.whole_lines.LastStart.{LastStart}
use Rattle.grep_lines.specs.declared.whole_lines.LastStart.TheVariants.{At, UpTo}

-- it is there, or it is the last one up to an earlier position
abbrev pub IsLookedFor : ℕ → List ℕ → ℕ → LastStart → Type 0
IsLookedFor t bytes position (At start) = IsLastStart t bytes position start
IsLookedFor t bytes position (UpTo earlier) =
    (earlier ≤ position)
    × ((start : ℕ) → IsLastStart t bytes earlier start → IsLastStart t bytes position start)
