use Rattle.std.proofs.Common.{◌≡◌, ℕ, ◌&&◌, ◌||◌, nat_lt, not}
use Rattle.grep_matcher.specs.ByteSets.{holds}
use Rattle.linegrep_files.proofs.class.others.Given as goal

abbrev pub invariant-loop-number : goal.invariant-loop-number
invariant-loop-number l = (k : ℕ) → holds l.others k
    ≡ (holds l.initial.others k || (nat_lt k l.number && not (holds l.set k)))
