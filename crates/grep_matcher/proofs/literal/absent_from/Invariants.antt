use Rattle.std.proofs.Common.{◌≡◌, ℕ, take}
use Rattle.grep_matcher.specs.ByteSets.{holds}
use Rattle.grep_matcher.specs.Literals.{lacks}
use Rattle.grep_matcher.proofs.literal.absent_from.Given as goal

abbrev pub invariant-loop-byte : goal.invariant-loop-byte
invariant-loop-byte l = (other : ℕ) → holds l.absent other
    ≡ lacks (take l.byte-index l.literal) other
