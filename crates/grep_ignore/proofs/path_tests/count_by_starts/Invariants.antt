use Rattle.std.proofs.Common.{◌≡◌, ℕ, ◌-◌, ◌<◌, ◌≤◌, length, drop, take, true}
use Rattle.grep_ignore.specs.Endings.{IsAboutAt, NoneWith, begins_at, number_after}
use Rattle.grep_ignore.proofs.path_tests.count_by_starts.Given as goal

abbrev pub invariant-loop-start : goal.invariant-loop-start
invariant-loop-start g l = record {
  start_within : l.start ≤ length l.path;
  least_is : l.least ≤ l.count;
  within : l.count ≤ length l.items;
  none : (start stop : ℕ) → start < l.start → start < stop → stop ≤ length l.path
      → stop - start ≤ l.longest → begins_at l.path start ≡ true → NoneWith g.T.PathTest.about l.items l.numbers l.count
      (number_after 1 (take (stop - start) (drop start l.path))) l.path l.is_folder;
  last : l.least < l.count → (item : _) × IsAboutAt g.T.PathTest.about l.items l.count l.path l.is_folder item;
}

abbrev pub decreases-loop-start : goal.decreases-loop-start
decreases-loop-start g l = length l.path - l.start
