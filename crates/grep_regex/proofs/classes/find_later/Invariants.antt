use Rattle.std.proofs.Common.{◌+◌, ◌-◌, ◌≤◌, length}
use Rattle.grep_regex.specs.Choices.{items_of}
use Rattle.grep_regex.specs.Classes.{any_decision}
use Rattle.grep_regex.specs.Decisions.{IsPassed}
use Rattle.grep_regex.proofs.classes.find_later.Given as goal

abbrev pub invariant-positions : goal.invariant-positions
invariant-positions l = record {
  low : l.start ≤ l.from;
  within : l.from ≤ length l.haystack;
  moved : l.tried + l.start ≤ l.from;
  passed : IsPassed (any_decision (items_of l.prefix.choices.items) l.haystack) l.start l.from;
}

abbrev pub decreases-positions : goal.decreases-positions
decreases-positions l = length l.haystack - l.from
