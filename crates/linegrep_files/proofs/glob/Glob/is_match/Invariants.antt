use Rattle.std.proofs.Common.{length, ◌≤◌}
use Rattle.linegrep_files.specs.Globs.{MatchesNoneFrom}
use Rattle.linegrep_files.proofs.glob.Glob.is_match.Given as goal

abbrev pub invariant-loop-at : goal.invariant-loop-at
invariant-loop-at l = record {
  within : l.at ≤ length l.self.choices.items;
  none : MatchesNoneFrom l.at l.self.choices.items l.path;
}

abbrev pub decreases-loop-at : goal.decreases-loop-at
decreases-loop-at l = l.at
