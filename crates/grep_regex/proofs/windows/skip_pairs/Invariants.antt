use Rattle.std.proofs.Common.{◌≤◌, ◌+◌, ◌-◌, ◌<◌}
use Rattle.memchr.specs.Find.{Nowhere}
use Rattle.grep_regex.proofs.windows.skip_pairs.Given as goal

abbrev pub invariant-pairs : goal.invariant-pairs
invariant-pairs g l = record {
  low : l.from ≤ l.at;
  near : l.at < l.last + 32;
  passed : Nowhere (g.T.Target.may_follow l.target) l.from l.at;
}

abbrev pub decreases-pairs : goal.decreases-pairs
decreases-pairs g l = l.last + 32 - l.at
