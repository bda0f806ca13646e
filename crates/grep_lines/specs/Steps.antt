-- What contracts see of a walk over lines.
use Rattle.std.specs.Prelude.{ℕ}

-- the byte at which lines are split, and the positions at which the next line starts and the last
-- one ends
pub record Step : Type 0 where
  pub terminator : ℕ
  pub start : ℕ
  pub end : ℕ
