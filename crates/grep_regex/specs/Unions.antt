-- Sequences of sets of bytes that differ at one position at most.
use Rattle.std.specs.Prelude.{◌≡◌, ◌≢◌, ℕ, ◌<◌, Bool, ◌||◌, List, [], length, set, slice_index_or}
use Rattle.grep_matcher.specs.ByteSets.{holds}

-- the ASCII members are the same
abbrev pub AreSame : List Bool → List Bool → Type 0
AreSame a b = (byte : ℕ) → byte < 128 → holds a byte ≡ holds b byte

-- there are as many, and those at other positions are the same
pub record DifferAt (sets more : List (List Bool)) (at : ℕ) : Type 0 where
  pub long : length more ≡ length sets
  pub inside : at < length sets
  pub same : (k : ℕ) → k < length sets → k ≢ at
      → AreSame (slice_index_or sets k []) (slice_index_or more k [])

-- the new sets have the members of both at the position where these differ
pub record IsUnion (sets more new : List (List Bool)) : Type 0 where
  pub at : ℕ
  pub one : List Bool
  pub differ : DifferAt sets more at
  pub both : (byte : ℕ) → byte < 128
      → holds one byte
      ≡ (holds (slice_index_or sets at []) byte || holds (slice_index_or more at []) byte)
  pub is : new ≡ set sets at one
