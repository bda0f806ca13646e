use Rattle.std.proofs.Common.{◌<◌, ◌≤◌, ℕ, [], length, slice_index_or}
use Rattle.grep_regex.specs.Choices.{items_of}
use Rattle.grep_regex.proofs.buckets.least_size.Given as goal

abbrev pub invariant-loop-i : goal.invariant-loop-i
invariant-loop-i l = record {
  few : l.size ≤ 3;
  least : (i : ℕ) → i < l.i → l.size ≤ length (slice_index_or (items_of l.choices) i []);
}
