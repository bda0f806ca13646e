use Rattle.std.proofs.Common.{◌≤◌, ◌+◌, ◌-◌, ◌<◌}
use Rattle.memchr.specs.Find.{Nowhere}
use Rattle.grep_regex.proofs.windows.skip.Given as goal

abbrev pub invariant-windows : goal.invariant-windows
invariant-windows g l = record {
  low : l.fn.start ≤ l.from;
  near : l.from < l.last + 32;
  passed : Nowhere (g.T.Target.may_follow l.target) l.fn.start l.from;
}

abbrev pub decreases-windows : goal.decreases-windows
decreases-windows g l = l.last + 32 - l.from
