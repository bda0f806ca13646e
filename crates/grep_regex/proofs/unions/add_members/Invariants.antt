use Rattle.std.proofs.Common.{◌≡◌, ◌<◌, ◌≤◌, ℕ, ◌||◌}
use Rattle.grep_matcher.specs.ByteSets.{holds}
use Rattle.grep_regex.proofs.unions.add_members.Given as goal

abbrev pub invariant-loop-byte : goal.invariant-loop-byte
invariant-loop-byte l = record {
  added : (other : ℕ) → other < l.byte → holds l.set other ≡ (holds l.initial.set other || holds l.more other);
  kept : (other : ℕ) → l.byte ≤ other → holds l.set other ≡ holds l.initial.set other;
}
