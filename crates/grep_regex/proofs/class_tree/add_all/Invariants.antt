use Rattle.std.proofs.Common.{◌≡◌, ◌++◌, take}
use Rattle.grep_regex.proofs.class_tree.add_all.Given as goal

abbrev pub invariant-loop-i : goal.invariant-loop-i
invariant-loop-i l = l.sets.items ≡ l.initial.sets.items ++ take l.i l.more
