use Rattle.std.proofs.Common.{◌<◌, ◌%◌, ℕ, [], length, slice_index_or}
use Rattle.grep_regex.specs.Buckets.{HasInBucket}
use Rattle.grep_regex.specs.Choices.{items_of}
use Rattle.grep_regex.proofs.buckets.BucketTable.has_all.Given as goal

abbrev pub invariant-loop-i : goal.invariant-loop-i
invariant-loop-i l = (i : ℕ) → i < l.i → l.position < length (slice_index_or (items_of l.choices) i [])
    → HasInBucket (slice_index_or (slice_index_or (items_of l.choices) i []) l.position []) (i % 8)
    l.self.low l.self.high
