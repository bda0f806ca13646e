use Rattle.std.proofs.Common.{◌≡◌, ℕ, take}
use Rattle.regex_class.specs.Ranges.{in_ranges}
use Rattle.grep_regex.specs.Clear.{is_among}
use Rattle.grep_regex.proofs.strip.class_of.Given as goal

abbrev pub invariant-loop-byte : goal.invariant-loop-byte
invariant-loop-byte l = (x : ℕ) → in_ranges l.ranges.items x ≡ is_among (take l.byte-index l.bytes) x
