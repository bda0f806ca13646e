use Rattle.std.proofs.Common.{◌≡◌, ◌&&◌, ℕ, not, take}
use Rattle.grep_matcher.specs.ByteSets.{holds}
use Rattle.grep_regex.specs.Clear.{is_among}
use Rattle.grep_regex.proofs.absent.remove_all.Given as goal

abbrev pub invariant-loop-byte : goal.invariant-loop-byte
invariant-loop-byte l = (other : ℕ) →
    holds l.set other ≡ (not (is_among (take l.byte-index l.bytes) other) && holds l.initial.set other)
