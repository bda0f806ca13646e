use Rattle.std.proofs.Common.{◌≡◌, ℕ, ◌&&◌, ◌||◌, nat_lt, not, if◌then◌else◌}
use Rattle.grep_matcher.specs.ByteSets.{holds}
use Rattle.grep_ignore.specs.Classes.{is_name_byte}
use Rattle.grep_ignore.proofs.class.class_of.Given as goal

abbrev pub invariant-loop-number : goal.invariant-loop-number
invariant-loop-number l = (k : ℕ) → holds l.set k ≡ (holds l.initial.set k || (nat_lt k l.number
    && (is_name_byte k && (if l.negates then not (holds l.members k) else holds l.members k))))
