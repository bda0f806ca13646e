-- Sequences of sets of bytes in eight buckets, and tables of which buckets have a byte.
use Rattle.std.specs.Prelude.{◌≡◌, ◌≢◌, ◌⊎◌, ℕ, ◌+◌, ◌<◌, ◌≤◌, ◌%◌, Bool, true, false, List, []}
use Rattle.std.specs.Prelude.{length, slice_index, slice_index_or, Some}
use Rattle.std.specs.Int.{bit_at}
use Rattle.regex_literal.specs.Nibbles.{buckets_of}
use Rattle.grep_matcher.specs.ByteSets.{holds}
use Rattle.grep_regex.specs.Classes.{any_decision}
use Rattle.grep_regex.specs.Decisions.{MayMatch}

-- a bucket has the ASCII members of a set
abbrev pub HasInBucket : List Bool → ℕ → List ℕ → List ℕ → Type 0
HasInBucket set bucket low high = (byte : ℕ) → byte < 128 → holds set byte ≡ true
    → bit_at (buckets_of low high byte) bucket ≡ 1

-- of each sequence that is as long, its bucket has the members of the set with this index
abbrev pub AreInBuckets : List (List (List Bool)) → ℕ → List ℕ → List ℕ → Type 0
AreInBuckets choices index low high = (i : ℕ) → i < length choices
    → index < length (slice_index_or choices i [])
    → HasInBucket (slice_index_or (slice_index_or choices i []) index []) (i % 8) low high

-- each sequence has as many sets, or more
abbrev pub AreAtLeast : List (List (List Bool)) → ℕ → Type 0
AreAtLeast choices size = (i : ℕ) → i < length choices → size ≤ length (slice_index_or choices i [])

-- it isn't decided that none of the sequences follows
abbrev pub MayFollow : List (List (List Bool)) → List ℕ → ℕ → Type 0
MayFollow choices hay i = any_decision choices hay i ≢ Some false

-- at each lane's position at which the sets of a sequence from the one with this index on may
-- follow, a byte isn't ASCII, or the lane has the bucket of the sequence
pub record AreMarked (choices : List (List (List Bool))) (index : ℕ) (hay : List ℕ) (at : ℕ)
    (signs buckets : List ℕ) : Type 0 where
  pub signs_long : length signs ≡ 32
  pub buckets_long : length buckets ≡ 32
  pub each : (k i : ℕ) → k < 32 → i < length choices
      → MayMatch (slice_index_or choices i []) index hay (at + k)
      → (128 ≤ slice_index signs k) ⊎ (bit_at (slice_index buckets k) (i % 8) ≡ 1)
