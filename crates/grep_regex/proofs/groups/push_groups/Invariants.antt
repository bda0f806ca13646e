use Rattle.std.proofs.Common.{◌≡◌, ◌++◌, length}
use Rattle.grep_regex.specs.Groups.{groups_of_cells}
use Rattle.grep_regex.proofs.groups.push_groups.Given as goal

abbrev pub invariant-loop-first : goal.invariant-loop-first
invariant-loop-first l =
    l.groups.items ++ groups_of_cells l.size l.rest ≡ l.fn.groups.items ++ groups_of_cells l.fn.size l.fn.cells

abbrev pub decreases-loop-first : goal.decreases-loop-first
decreases-loop-first l = length l.rest
