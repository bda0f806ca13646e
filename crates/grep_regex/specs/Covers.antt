-- Sets of bytes that have the members of others.
use Rattle.std.specs.Prelude.{◌≡◌, ℕ, ◌<◌, ◌≤◌, Bool, true, List, [], length, slice_index_or}
use Rattle.grep_matcher.specs.ByteSets.{holds}

-- the ASCII members of a set are members of another
abbrev pub IsSubset : List Bool → List Bool → Type 0
IsSubset set other = (byte : ℕ) → byte < 128 → holds set byte ≡ true → holds other byte ≡ true

-- each of the first sets has the members of the set at its position
abbrev pub AreCovered : List (List Bool) → List (List Bool) → Type 0
AreCovered cover sets = (length cover ≤ length sets)
    × ((k : ℕ) → k < length cover → IsSubset (slice_index_or sets k []) (slice_index_or cover k []))
