use Rattle.std.proofs.Common.{◌-◌, ◌≤◌, length}
use Rattle.memchr.specs.Find.{Nowhere, OccursAt}
use Rattle.grep_matcher.proofs.probe.skip.Given as goal

abbrev pub invariant-loop-position : goal.invariant-loop-position
invariant-loop-position g l = record {
  low : l.from ≤ l.position;
  within : l.position ≤ length l.haystack;
  passed : Nowhere (OccursAt l.haystack l.literal) l.from l.position;
}

abbrev pub decreases-loop-position : goal.decreases-loop-position
decreases-loop-position g l = length l.haystack - l.position
