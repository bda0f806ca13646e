use Rattle.std.proofs.Common.{◌≡◌, ℕ, ◌-◌, ◌<◌, ◌≤◌, length, get_or}
use Rattle.std.specs.Prelude.{◌≢◌}
use Rattle.grep_ignore.specs.Chains.{bits_of}
use Rattle.grep_ignore.proofs.numbers.skip.Given as goal

abbrev pub invariant-loop-at : goal.invariant-loop-at
invariant-loop-at l = record {
  within : l.at ≤ l.count;
  others : (k : ℕ) → l.at ≤ k → k < l.count → get_or l.numbers k 0 ≢ l.number;
  near : 0 < l.at → bits_of (length l.last) (get_or l.numbers (l.at - 1) 0) ≡ bits_of (length l.last) l.number;
}

abbrev pub decreases-loop-at : goal.decreases-loop-at
decreases-loop-at l = l.at
