use Rattle.std.proofs.Common.{◌≤◌, ◌+◌, ◌-◌, ◌<◌}
use Rattle.memchr.specs.Find.{Nowhere, OccursAt}
use Rattle.grep_matcher.proofs.few.find_few.Given as goal

abbrev pub invariant-windows : goal.invariant-windows
invariant-windows l = record {
  low : l.fn.start ≤ l.from;
  near : l.from < l.last + 16;
  passed : Nowhere (OccursAt l.haystack l.finder) l.fn.start l.from;
}

abbrev pub decreases-windows : goal.decreases-windows
decreases-windows l = l.last + 16 - l.from
