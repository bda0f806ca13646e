-- How a line buffer is made larger for a long input.
use Rattle.std.specs.Prelude.{◌≡◌, ◌⊎◌, ◌*◌, ◌-◌, ◌<◌, ◌≤◌}
use Rattle.grep_line_buffer.specs.BufferStates.{BufferState}
use Rattle.grep_line_buffer.specs.Room.{next_size}

-- a full buffer, of which the input before it is 16 times the size, was made larger
pub record IsWidened (old new : BufferState) : Type 0 where
  pub full : old.free ≡ 0
  pub small : old.size < 131072
  pub long : 16 * old.size ≤ old.offset
  pub is : new ≡ record old {
    size = next_size 1 old.limit old.size;
    free = next_size 1 old.limit old.size - old.size;
  }

-- that, or nothing
abbrev pub Widens : BufferState → BufferState → Type 0
Widens old new = (new ≡ old) ⊎ IsWidened old new
