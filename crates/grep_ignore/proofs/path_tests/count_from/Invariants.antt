use Rattle.std.proofs.Common.{◌≡◌, ℕ, ◌-◌, ◌<◌, ◌≤◌, length, drop, take}
use Rattle.grep_ignore.specs.Endings.{IsAboutAt, NoneWith, number_after}
use Rattle.grep_ignore.proofs.path_tests.count_from.Given as goal

abbrev pub invariant-loop-stop : goal.invariant-loop-stop
invariant-loop-stop g l = record {
  after : l.start ≤ l.stop;
  stop_within : l.stop ≤ length l.path;
  same : l.number ≡ number_after 1 (take (l.stop - l.start) (drop l.start l.path));
  least_is : l.least ≤ l.count;
  within : l.count ≤ length l.items;
  none : (stop : ℕ) → l.start < stop → stop ≤ l.stop
      → NoneWith g.T.PathTest.about l.items l.numbers l.count
      (number_after 1 (take (stop - l.start) (drop l.start l.path))) l.path l.is_folder;
  last : l.least < l.count → (item : _) × IsAboutAt g.T.PathTest.about l.items l.count l.path l.is_folder item;
}

abbrev pub decreases-loop-stop : goal.decreases-loop-stop
decreases-loop-stop g l = length l.path - l.stop
