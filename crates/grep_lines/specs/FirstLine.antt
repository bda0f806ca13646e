-- The first line of some bytes, by its length, and the last line start up to a position.
use Rattle.std.specs.Prelude.{◌≡◌, ◌≢◌, ℕ, ◌+◌, ◌-◌, ◌<◌, ◌≤◌, List, length, slice_index}

-- the first e bytes are the first line
pub record IsFirstLine (t : ℕ) (bytes : List ℕ) (e : ℕ) : Type 0 where
  pub above : 0 < e
  pub within : e ≤ length bytes
  pub inner : (i : ℕ) → i + 1 < e → slice_index bytes i ≢ t
  pub closed : e < length bytes → slice_index bytes (e - 1) ≡ t

-- the last line start up to a position: right after the last t before the position, or 0
pub record IsLastStart (t : ℕ) (bytes : List ℕ) (position start : ℕ) : Type 0 where
  pub high : start ≤ position
  pub inner : (i : ℕ) → start ≤ i → i < position → slice_index bytes i ≢ t
  pub closed : 0 < start → slice_index bytes (start - 1) ≡ t
