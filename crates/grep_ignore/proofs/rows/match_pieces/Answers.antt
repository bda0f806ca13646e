use Rattle.std.proofs.Common.{◌-◌, ◌<◌, ◌≤◌, length, arith}
use Rattle.grep_ignore.specs.Rows.{decides}
use Rattle.std.proofs.Common.{drop}
use Rattle.grep_ignore.proofs.RowLemmas.{row-more, first-is}
use Rattle.grep_ignore.proofs.rows.match_pieces.Goals as goal

pub loop-at-preserved : goal.loop-at-preserved
loop-at-preserved c =
    let some : 0 < c.loop-at.at = c.loop-at-test.true in
    let within : c.loop-at.at ≤ length c.args.pieces.now = c.loop-at.invariant.within in
    record {
      within = omega arith;
      row = row-more c.args.pieces.now (c.loop-at.at - 1) c.loop-at.at c.index-pieces-at.result
          c.args.path.now c.match_piece.new.row (omega arith) within c.index-pieces-at.is
          (c.match_piece.ensures (decides (drop c.loop-at.at c.args.pieces.now))
          c.loop-at.invariant.row);
    }

pub returns : goal.returns
returns c = first-is c.args.pieces.now c.loop-at.at c.args.path.now c.loop-at.row c.loop-at-test.false
    c.loop-at.invariant.row
