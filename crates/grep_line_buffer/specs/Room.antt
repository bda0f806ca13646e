-- How a full vector grows, and why it can't. Of these definitions public contracts cite `next_size`
-- alone.
use Rattle.std.specs.Prelude.{◌≡◌, ◌≢◌, ℕ, ◌*◌, ◌<◌, ◌≤◌, max, min, Option, Some, None}
use Rattle.grep_line_buffer.specs.declared.fill_error.FillError.{FillError}
use Rattle.grep_line_buffer.specs.declared.fill_error.FillError.TheVariants.{Read, HeapLimit}
use Rattle.grep_line_buffer.specs.declared.fill_error.FillError.TheVariants.{Offset, Memory}
use Rattle.grep_line_buffer.specs.Contents.{first_size}

-- the size to which a full vector of this size grows: twice that, at first `least`, and never more
-- than the limit
abbrev pub next_size : ℕ → Option ℕ → ℕ → ℕ
next_size least None size = max least (2 * size)
next_size least (Some most) size = min most (max least (2 * size))

-- a full vector of this size is at its limit, or there was no memory for a larger one
abbrev pub IsFullFault : Option ℕ → ℕ → FillError → Type 0
IsFullFault limit size HeapLimit = limit ≡ Some size
IsFullFault limit size Memory = limit ≢ Some size
IsFullFault limit size Offset = ⊥
IsFullFault limit size (Read e) = ⊥

-- for how many bytes a vector has room at first
abbrev pub first_room : Option ℕ → ℕ
first_room None = first_size
first_room (Some most) = min most first_size

-- a vector of this size and capacity is empty, or has as much room as at first
abbrev pub HasFirstRoom : Option ℕ → ℕ → ℕ → Type 0
HasFirstRoom limit size capacity = 0 < size → first_room limit ≤ capacity
