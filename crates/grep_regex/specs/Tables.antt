-- Sets of bytes as tables of the halves of their members.
use Rattle.std.specs.Prelude.{◌≡◌, ℕ, ◌<◌, true, Bool, List, [], bit_or, slice_index_or}
use Rattle.regex_literal.specs.Nibbles.{buckets_of}
use Rattle.grep_matcher.specs.ByteSets.{holds}

-- the tables have the ASCII members of the set with this index
abbrev pub HasMembers : List (List Bool) → ℕ → List ℕ → List ℕ → Type 0
HasMembers sets index low high = (byte : ℕ) → byte < 128
    → holds (slice_index_or sets index []) byte ≡ true
    → 0 < buckets_of low high byte

-- each ASCII member of the set with this index is that value if the bits of a mask are set in it
abbrev pub HasFold : List (List Bool) → ℕ → ℕ → ℕ → Type 0
HasFold sets index mask value = (byte : ℕ) → byte < 128
    → holds (slice_index_or sets index []) byte ≡ true → bit_or byte mask ≡ value
