use Rattle.std.proofs.Common.{map, take}
use Rattle.regex_hir.specs.Meaning.{meaning}
use Rattle.grep_regex.specs.SameEnds.{AreSameEnds}
use Rattle.grep_regex.proofs.ungrouped.+ungrouped.Given as goal

abbrev pub invariant-ungrouped_all-loop-i : goal.invariant-ungrouped_all-loop-i
invariant-ungrouped_all-loop-i l = AreSameEnds (map meaning (take l.i l.subs)) (map meaning l.all.items)
