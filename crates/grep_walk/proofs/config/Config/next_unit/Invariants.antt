use Rattle.std.proofs.Common.{◌-◌, length}
use Rattle.grep_walk.specs.TouchedUnits.{IsReached}
use Rattle.grep_walk.proofs.config.Config.next_unit.Given as goal

abbrev pub invariant-matches : goal.invariant-matches
invariant-matches g l = record {
  reached : IsReached l.self (g.M.Matcher.facts l.matcher).meaning l.bytes l.fn.blocks.end l.blocks
      l.unit;
}

abbrev pub decreases-matches : goal.decreases-matches
decreases-matches g l = length l.bytes - l.blocks.position
