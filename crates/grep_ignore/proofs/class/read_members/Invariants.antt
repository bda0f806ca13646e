use Rattle.std.proofs.Common.{ℕ, List, length, ◌<◌}
use Rattle.grep_ignore.specs.Classes.{AddsRanges, AreMembers}
use Rattle.grep_ignore.proofs.class.read_members.Given as goal

abbrev pub invariant-loop-set : goal.invariant-loop-set
invariant-loop-set l = (ranges : List (ℕ × ℕ)) × (0 < length ranges) × AreMembers ranges l.text l.left
    × AddsRanges l.ignores_case ranges l.fn.set l.set

abbrev pub decreases-loop-set : goal.decreases-loop-set
decreases-loop-set l = length l.left
