use Rattle.std.proofs.Common.{◌≡◌, ◌&&◌, ℕ, nat_lt}
use Rattle.regex_class.specs.Ranges.{in_ranges}
use Rattle.grep_matcher.specs.ByteSets.{holds}
use Rattle.grep_regex.proofs.class_tree.ascii_set.Given as goal

abbrev pub invariant-loop-byte : goal.invariant-loop-byte
invariant-loop-byte l = (other : ℕ) → holds l.set other ≡ (in_ranges l.class.ranges.items other && nat_lt other l.byte)
