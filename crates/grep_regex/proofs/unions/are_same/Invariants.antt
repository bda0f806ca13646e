use Rattle.std.proofs.Common.{◌≡◌, ◌<◌, ℕ}
use Rattle.grep_matcher.specs.ByteSets.{holds}
use Rattle.grep_regex.proofs.unions.are_same.Given as goal

abbrev pub invariant-loop-byte : goal.invariant-loop-byte
invariant-loop-byte l = (other : ℕ) → other < l.byte → holds l.set other ≡ holds l.other other
