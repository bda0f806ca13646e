use Rattle.std.proofs.Common.{◌≡◌, ◌<◌, ℕ, true, bit_or}
use Rattle.grep_matcher.specs.ByteSets.{holds}
use Rattle.grep_regex.proofs.folds.Fold.has_all.Given as goal

abbrev pub invariant-loop-byte : goal.invariant-loop-byte
invariant-loop-byte l = (other : ℕ) → other < l.byte → holds l.set other ≡ true
    → bit_or other l.self.mask ≡ l.self.value
