use Rattle.std.proofs.Common.{◌≡◌, ◌<◌, ◌≤◌, ℕ, length, slice_index}
use Rattle.linegrep_files.proofs.finder.root_of.Given as goal

abbrev pub invariant-loop-root : goal.invariant-loop-root
invariant-loop-root l = record {
  within : l.root ≤ length l.path;
  slashes : (k : ℕ) → l.root ≤ k → k < length l.path → slice_index l.path k ≡ 47;
}

abbrev pub decreases-loop-root : goal.decreases-loop-root
decreases-loop-root l = l.root
