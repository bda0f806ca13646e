use Rattle.std.proofs.Common.{◌≤◌, length}
use Rattle.grep_ignore.proofs.glob.tail_len.Given as goal

abbrev pub invariant-loop-start : goal.invariant-loop-start
invariant-loop-start l = l.start ≤ length l.glob

abbrev pub decreases-loop-start : goal.decreases-loop-start
decreases-loop-start l = l.start
