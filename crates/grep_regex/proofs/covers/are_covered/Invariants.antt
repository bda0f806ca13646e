use Rattle.std.proofs.Common.{◌<◌, ℕ, [], slice_index_or}
use Rattle.grep_regex.specs.Covers.{IsSubset}
use Rattle.grep_regex.proofs.covers.are_covered.Given as goal

abbrev pub invariant-loop-k : goal.invariant-loop-k
invariant-loop-k l = (k : ℕ) → k < l.k → IsSubset (slice_index_or l.sets k []) (slice_index_or l.cover k [])
