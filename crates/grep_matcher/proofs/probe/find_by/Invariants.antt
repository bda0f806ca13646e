use Rattle.std.proofs.Common.{◌-◌, ◌*◌, ◌≤◌, length}
use Rattle.memchr.specs.Find.{Nowhere, OccursAt}
use Rattle.grep_matcher.proofs.probe.find_by.Given as goal

abbrev pub invariant-steps : goal.invariant-steps
invariant-steps g l = record {
  within : l.from ≤ length l.haystack;
  passed : Nowhere (OccursAt l.haystack l.finder) 0 l.from;
  few : l.tried * 128 ≤ l.from;
}

abbrev pub decreases-steps : goal.decreases-steps
decreases-steps g l = length l.haystack - l.from
