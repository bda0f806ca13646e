use Rattle.std.proofs.Common.{length, ◌-◌, ◌≡◌, ℕ, ◌+◌, Bool, List, ◌≤◌}
use Rattle.grep_ignore.specs.Rows.{IsRow, one_step}
use Rattle.grep_ignore.proofs.RowLemmas.{IsPartly}
use Rattle.grep_ignore.proofs.rows.match_one.Given as goal

abbrev pub invariant-loop-at : goal.invariant-loop-at
invariant-loop-at l = record {
  within : l.at ≤ length l.path;
  size : length l.row ≡ length l.path + 1;
  row : (f : List ℕ → Bool) → IsRow f l.path l.fn.row → IsPartly l.at (one_step f l.set) f l.path l.row;
}

abbrev pub decreases-loop-at : goal.decreases-loop-at
decreases-loop-at l = length l.path - l.at
