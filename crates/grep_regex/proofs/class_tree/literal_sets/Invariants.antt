use Rattle.std.proofs.Common.{take}
use Rattle.grep_regex.specs.Classes.{AreBytes}
use Rattle.grep_regex.proofs.class_tree.literal_sets.Given as goal

abbrev pub invariant-loop-i : goal.invariant-loop-i
invariant-loop-i l = AreBytes (take l.i l.bytes) l.sets.items
