use Rattle.std.proofs.Common.{◌≤◌, ◌+◌, ◌-◌, ◌<◌}
use Rattle.memchr.specs.Find.{Nowhere, OccursAt}
use Rattle.grep_matcher.proofs.short.nearest_from.Given as goal

abbrev pub invariant-windows : goal.invariant-windows
invariant-windows l = record {
  low : l.fn.start ≤ l.from;
  near : l.from < l.last + 32;
  passed : Nowhere (OccursAt l.haystack l.literal) l.fn.start l.from;
}

abbrev pub decreases-windows : goal.decreases-windows
decreases-windows l = l.last + 32 - l.from
