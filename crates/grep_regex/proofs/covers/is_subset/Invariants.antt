use Rattle.std.proofs.Common.{◌≡◌, ◌<◌, ℕ, true}
use Rattle.grep_matcher.specs.ByteSets.{holds}
use Rattle.grep_regex.proofs.covers.is_subset.Given as goal

abbrev pub invariant-loop-byte : goal.invariant-loop-byte
invariant-loop-byte l = (b : ℕ) → b < l.byte → holds l.set b ≡ true → holds l.other b ≡ true
