use Rattle.std.proofs.Common.{◌≡◌, ◌⊎◌, ◌≤◌, ◌+◌, ◌-◌, None, true, length}
use Rattle.grep_walk.specs.LineRuns.{IsRun}
use Rattle.grep_walk.proofs.config.Config.matching_lines.Given as goal

abbrev pub invariant-lines : goal.invariant-lines
invariant-lines g l = record {
  run : IsRun l.self (g.M.Matcher.facts l.matcher) l.window l.start l.ahead true l.lines;
  unfailed : l.failure ≡ None;
  unknown : l.lines.ahead.asked_end ≤ l.lines.end;
  few : (l.lines.end ≤ l.start + 16384) ⊎ (l.lines.end ≡ l.ahead.match_end);
}

abbrev pub decreases-lines : goal.decreases-lines
decreases-lines g l = length l.window - l.lines.end
