use Rattle.std.proofs.Common.{◌<◌, length}
use Rattle.grep_regex.proofs.unions.difference.Given as goal

abbrev pub invariant-loop-i : goal.invariant-loop-i
invariant-loop-i l = l.index < length l.sets
