use Rattle.std.proofs.Common.{◌≢◌, ◌<◌, ℕ, [], slice_index_or}
use Rattle.grep_regex.specs.Unions.{AreSame}
use Rattle.grep_regex.proofs.unions.are_same_but.Given as goal

abbrev pub invariant-loop-i : goal.invariant-loop-i
invariant-loop-i l = (k : ℕ) → k < l.i → k ≢ l.index → AreSame (slice_index_or l.sets k []) (slice_index_or l.more k [])
