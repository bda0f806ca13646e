-- Some bytes of a literal.
use Rattle.std.specs.Prelude.{◌≡◌, ℕ, ◌+◌, ◌-◌, ◌/◌, ◌<◌, ◌≤◌, List, length, min, slice_index}
use Rattle.grep_matcher.specs.declared.probe.Probe.{Probe}
use Rattle.grep_matcher.specs.declared.probe.Probe.TheVariants.{One, Three}
use Rattle.grep_matcher.specs.declared.short.Nearest.{Nearest}
use Rattle.grep_matcher.specs.declared.short.Nearest.TheVariants.{NotBefore, Resembles}
use Rattle.memchr.specs.Find.{Nowhere, OccursAt}

-- their positions are in the literal
abbrev pub IsProbeOf : Probe → List ℕ → Type 0
IsProbeOf (One index) literal = index < length literal
IsProbeOf (Three first second third) literal =
    (first < length literal) × (second < length literal) × (third < length literal)

-- at a position the bytes at three positions of a literal are where it would have them
pub record HasBytesAt (hay literal : List ℕ) (first second third k : ℕ) : Type 0 where
  pub fits : k + length literal ≤ length hay
  pub first_is : slice_index hay (k + first) ≡ slice_index literal first
  pub second_is : slice_index hay (k + second) ≡ slice_index literal second
  pub third_is : slice_index hay (k + third) ≡ slice_index literal third

-- so are its first, its middle and its last byte
abbrev pub ResemblesAt : List ℕ → List ℕ → ℕ → Type 0
ResemblesAt hay literal = HasBytesAt hay literal 0 (length literal / 2) (length literal - 1)

-- the position of which something is known
abbrev pub position_of : Nearest → ℕ
position_of (Resembles at) = at
position_of (NotBefore from) = from

-- what is known there of a literal
abbrev pub IsKnownThere : List ℕ → List ℕ → Nearest → Type 0
IsKnownThere hay literal (Resembles at) = ResemblesAt hay literal at
IsKnownThere hay literal (NotBefore from) = from ≤ length hay

-- a literal doesn't occur before that position
pub record IsNearest (hay literal : List ℕ) (start : ℕ) (nearest : Nearest) : Type 0 where
  pub low : start ≤ position_of nearest
  pub passed : Nowhere (OccursAt hay literal) start (position_of nearest)
  pub known : IsKnownThere hay literal nearest

-- where the part of a haystack ends at whose first 512 positions a literal is looked for first
abbrev pub near_end : List ℕ → List ℕ → ℕ
near_end hay literal = min (length hay) (length literal + 512 - 1)
