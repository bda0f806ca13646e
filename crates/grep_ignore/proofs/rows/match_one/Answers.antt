use Rattle.std.proofs.Common.{◌<◌, ◌≤◌, length, arith, ◌∙◌}
use Rattle.std.proofs.lemmas.List.{length-set}
use Rattle.grep_ignore.specs.Rows.{one_step}
use Rattle.grep_ignore.proofs.RowLemmas.{sets-low, one-is, one-ends, row-low}
use Rattle.grep_ignore.proofs.rows.match_one.Goals as goal

pub loop-at-preserved : goal.loop-at-preserved
loop-at-preserved c =
    let below : c.loop-at.at < length c.args.path.now = c.loop-at-test.true in
    record {
      within = omega arith;
      size = length-set c.loop-at.row c.loop-at.at c.one_at-here.result ∙ c.loop-at.invariant.size;
      row = λ f is. sets-low c.loop-at.at (one_step f c.args.set.now) f c.args.path.now c.loop-at.row
          c.one_at-here.result (omega arith) (c.loop-at.invariant.row f is)
          (c.one_at-here.ensures ∙ one-is f c.args.set.now c.args.path.now c.loop-at.row c.loop-at.at
          below (c.loop-at.invariant.row f is));
    }

pub returns : goal.returns
returns c = λ f is.
    let all : length c.args.path.now ≤ c.loop-at.at = c.loop-at-test.false in
    let within : c.loop-at.at ≤ length c.args.path.now = c.loop-at.invariant.within in
    row-low c.loop-at.at (one_step f c.args.set.now) f c.args.path.now _ all
    (sets-low c.loop-at.at (one_step f c.args.set.now) f c.args.path.now c.loop-at.row _ within
    (c.loop-at.invariant.row f is) (one-ends f c.args.set.now c.args.path.now c.loop-at.at all))
