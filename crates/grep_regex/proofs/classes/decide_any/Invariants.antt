use Rattle.std.proofs.Common.{◌≡◌, ◌<◌, ◌≤◌, ◌+◌, true, length, take}
use Rattle.grep_regex.specs.Choices.{items_of}
use Rattle.grep_regex.specs.Classes.{any_decision}
use Rattle.grep_regex.specs.Decisions.{IsPassed}
use Rattle.grep_regex.proofs.classes.decide_any.Given as goal

abbrev pub invariant-loop-i : goal.invariant-loop-i
invariant-loop-i l = record {
  later : l.at < l.next;
  within : l.next ≤ length l.haystack + 1;
  passed : l.is_known ≡ true → IsPassed (any_decision (items_of (take l.i l.choices)) l.haystack) l.at l.next;
}
