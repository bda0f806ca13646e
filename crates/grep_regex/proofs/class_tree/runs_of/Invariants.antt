use Rattle.std.proofs.Common.{map, take}
use Rattle.regex_hir.specs.Meaning.{meaning}
use Rattle.grep_regex.specs.Choices.{items_of}
use Rattle.grep_regex.specs.Classes.{AreRuns}
use Rattle.grep_regex.proofs.class_tree.runs_of.Given as goal

abbrev pub invariant-loop-i : goal.invariant-loop-i
invariant-loop-i l = AreRuns (map meaning (take l.i l.subs)) (items_of l.choices.items)
