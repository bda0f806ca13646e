use Rattle.std.proofs.Common.{◌≡◌, map, take}
use Rattle.regex_hir.specs.Meaning.{meaning, alt_all, cat_all}
use Rattle.grep_regex.specs.Classes.{repeated, IsRun}
use Rattle.grep_regex.proofs.class_tree.+run.Given as goal

abbrev pub invariant-repeated_sets-loop : goal.invariant-repeated_sets-loop
invariant-repeated_sets-loop l = l.sets.items ≡ repeated l.counter l.one.items

abbrev pub invariant-run_all-loop-i : goal.invariant-run_all-loop-i
invariant-run_all-loop-i l = IsRun (cat_all (map meaning (take l.i l.subs))) l.sets.items

abbrev pub invariant-choice_sets-loop-i : goal.invariant-choice_sets-loop-i
invariant-choice_sets-loop-i l = IsRun (alt_all (map meaning (take l.i l.subs))) l.sets.items
