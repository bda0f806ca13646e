use Rattle.std.proofs.Common.{◌≡◌, ℕ, ◌<◌, ◌≤◌, length, drop}
use Rattle.grep_ignore.specs.Endings.{IsAboutAt, NoneWith, number_of}
use Rattle.grep_ignore.proofs.path_tests.count_by_ends.Given as goal

abbrev pub invariant-loop-start : goal.invariant-loop-start
invariant-loop-start g l = record {
  start_within : l.start ≤ length l.path;
  same : l.number ≡ number_of (drop l.start l.path);
  within : l.count ≤ length l.items;
  none : (start : ℕ) → l.start ≤ start → start ≤ length l.path
      → NoneWith g.T.PathTest.about l.items l.numbers l.count (number_of (drop start l.path)) l.path l.is_folder;
  last : 0 < l.count → (item : _) × IsAboutAt g.T.PathTest.about l.items l.count l.path l.is_folder item;
}

abbrev pub decreases-loop-start : goal.decreases-loop-start
decreases-loop-start g l = l.start
