use Rattle.std.proofs.Common.{map, take}
use Rattle.regex_hir.specs.Meaning.{alt_all, meaning}
use Rattle.grep_regex.specs.Choices.{items_of}
use Rattle.grep_regex.specs.Classes.{DecideAny}
use Rattle.grep_regex.proofs.class_tree.alternative_sets.Given as goal

abbrev pub invariant-loop-i : goal.invariant-loop-i
invariant-loop-i l = DecideAny (alt_all (map meaning (take l.i l.subs))) (items_of l.choices.items)
