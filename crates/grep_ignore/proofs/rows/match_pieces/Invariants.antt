use Rattle.std.proofs.Common.{length, ◌≤◌, drop}
use Rattle.grep_ignore.specs.Rows.{IsRow, decides}
use Rattle.grep_ignore.proofs.rows.match_pieces.Given as goal

abbrev pub invariant-loop-at : goal.invariant-loop-at
invariant-loop-at l = record {
  within : l.at ≤ length l.pieces;
  row : IsRow (decides (drop l.at l.pieces)) l.path l.row;
}

abbrev pub decreases-loop-at : goal.decreases-loop-at
decreases-loop-at l = l.at
