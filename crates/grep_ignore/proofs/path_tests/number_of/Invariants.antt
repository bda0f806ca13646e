use Rattle.std.proofs.Common.{◌≡◌, ◌≤◌, drop, length}
use Rattle.grep_ignore.specs.Endings.{number_of}
use Rattle.grep_ignore.proofs.path_tests.number_of.Given as goal

abbrev pub invariant-loop-start : goal.invariant-loop-start
invariant-loop-start l = record {
  within : l.start ≤ length l.text;
  same : l.number ≡ number_of (drop l.start l.text);
}

abbrev pub decreases-loop-start : goal.decreases-loop-start
decreases-loop-start l = l.start
