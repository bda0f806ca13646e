use Rattle.std.proofs.Common.{◌≡◌, ℕ, ◌&&◌, ◌||◌, nat_lt}
use Rattle.grep_matcher.specs.ByteSets.{holds}
use Rattle.grep_ignore.specs.Classes.{is_either, is_in_range}
use Rattle.grep_ignore.proofs.class.add_range.Given as goal

abbrev pub invariant-loop-number : goal.invariant-loop-number
invariant-loop-number l = (k : ℕ) → holds l.set k
    ≡ (holds l.fn.set k || (nat_lt k l.number && is_either l.ignores_case (is_in_range (l.first, l.last)) k))
