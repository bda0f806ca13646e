use Rattle.std.proofs.Common.{◌<◌, ℕ, get_or}
use Rattle.grep_ignore.specs.Layers.{rank_of}
use Rattle.grep_ignore.specs.declared.layers.Layer.{Layer}
use Rattle.grep_ignore.proofs.layers.index_for.Given as goal

abbrev pub invariant-loop-at : goal.invariant-loop-at
invariant-loop-at l = (k : ℕ) (other : Layer) → k < l.at
    → rank_of (get_or l.layers k other).origin < rank_of l.origin
