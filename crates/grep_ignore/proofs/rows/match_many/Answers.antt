use Rattle.std.proofs.Common.{◌-◌, ◌<◌, ◌≤◌, length, arith, ◌∙◌}
use Rattle.std.proofs.lemmas.List.{length-set}
use Rattle.grep_ignore.specs.Rows.{many_step}
use Rattle.grep_ignore.proofs.RowLemmas.{sets-high, many-is, row-high}
use Rattle.grep_ignore.proofs.rows.match_many.Goals as goal

pub loop-at-preserved : goal.loop-at-preserved
loop-at-preserved c =
    let some : 0 < c.loop-at.at = c.loop-at-test.true in
    let within : c.loop-at.at ≤ length c.args.path.now = c.loop-at.invariant.within in
    record {
      within = omega arith;
      size = length-set c.loop-at.row (c.loop-at.at - 1) c.many_at-here.result
          ∙ c.loop-at.invariant.size;
      row = λ f is. sets-high (c.loop-at.at - 1) c.loop-at.at f (many_step f c.args.set.now)
          c.args.path.now c.loop-at.row c.many_at-here.result (omega arith) (omega arith)
          (c.loop-at.invariant.row f is) (c.many_at-here.ensures ∙ many-is f c.args.set.now
          c.args.path.now c.loop-at.row (c.loop-at.at - 1) c.loop-at.at (omega arith) within
          (c.loop-at.invariant.row f is));
    }

pub returns : goal.returns
returns c = λ f is.
    row-high c.loop-at.at f (many_step f c.args.set.now) c.args.path.now c.loop-at.row
    c.loop-at-test.false (c.loop-at.invariant.row f is)
