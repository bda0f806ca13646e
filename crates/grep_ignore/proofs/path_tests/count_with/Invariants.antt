use Rattle.std.proofs.Common.{◌≡◌, ◌-◌, ◌<◌, ◌≤◌, length, get_or}
use Rattle.grep_ignore.specs.Endings.{NoneWith}
use Rattle.grep_ignore.proofs.path_tests.count_with.Given as goal

abbrev pub invariant-loop-count : goal.invariant-loop-count
invariant-loop-count g l = record {
  within : l.count ≤ length l.items;
  none : NoneWith g.T.PathTest.about l.items l.numbers l.count l.number l.path l.is_folder;
  last : 0 < l.count → get_or l.numbers (l.count - 1) 0 ≡ l.number;
}

abbrev pub decreases-loop-count : goal.decreases-loop-count
decreases-loop-count g l = l.count
