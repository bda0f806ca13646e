-- The whole lines that a match extends over.
use Rattle.std.specs.Prelude.{ℕ, ◌+◌, ◌-◌, ◌&&◌, ◌==◌, nat_lt, if◌then◌else◌, List, take}
use Rattle.std.specs.Prelude.{slice_index, count_by}
use Rattle.grep_matcher.specs.Lines.{line_start}

-- how many lines end at a position or before it, with a terminator: the index of the line that the
-- position is in
abbrev pub lines_before : ℕ → List ℕ → ℕ → ℕ
lines_before t bytes position = count_by (λ b. b == t) (take position bytes)

-- the start of the line that the match's start is in
abbrev pub block_start : ℕ → List ℕ → ℕ × ℕ → ℕ
block_start t bytes m = line_start t bytes (lines_before t bytes m.0)

-- the end of the match, if it isn't empty and its last byte is the terminator; else the end of the
-- line that the match's end is in
abbrev pub block_end : ℕ → List ℕ → ℕ × ℕ → ℕ
block_end t bytes m =
    if nat_lt m.0 m.1 && slice_index bytes (m.1 - 1) == t
    then line_start t bytes (lines_before t bytes m.1)
    else line_start t bytes (lines_before t bytes m.1 + 1)
