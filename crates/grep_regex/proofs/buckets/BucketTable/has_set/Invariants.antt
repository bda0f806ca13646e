use Rattle.std.proofs.Common.{◌≡◌, ◌<◌, ℕ, true}
use Rattle.std.specs.Int.{bit_at}
use Rattle.regex_literal.specs.Nibbles.{buckets_of}
use Rattle.grep_matcher.specs.ByteSets.{holds}
use Rattle.grep_regex.proofs.buckets.BucketTable.has_set.Given as goal

abbrev pub invariant-loop-byte : goal.invariant-loop-byte
invariant-loop-byte l = (other : ℕ) → other < l.byte → holds l.set other ≡ true
    → bit_at (buckets_of l.self.low l.self.high other) l.bucket ≡ 1
