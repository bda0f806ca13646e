use Rattle.std.proofs.Common.{◌-◌, ◌<◌, ◌≤◌, length, arith, ◌∙◌}
use Rattle.std.proofs.lemmas.List.{length-set}
use Rattle.grep_ignore.specs.declared.wildcards.Piece.TheVariants.{Folders}
use Rattle.grep_ignore.specs.Rows.{step}
use Rattle.grep_ignore.proofs.RowLemmas.{sets-high, ends-is, folders-is, row-high}
use Rattle.grep_ignore.proofs.rows.match_folders.Goals as goal

pub loop-at-preserved : goal.loop-at-preserved
loop-at-preserved c =
    let some : 0 < c.loop-at.at = c.loop-at-test.true in
    let within : c.loop-at.at ≤ length c.args.path.now = c.loop-at.invariant.within in
    record {
      within = omega arith;
      size = length-set c.loop-at.row (c.loop-at.at - 1) c.either.result ∙ c.loop-at.invariant.size;
      row = λ f is. sets-high (c.loop-at.at - 1) c.loop-at.at f (step Folders f) c.args.path.now
          c.loop-at.row c.either.result (omega arith) (omega arith) (c.loop-at.invariant.row f is)
          (c.either.ensures ∙ folders-is f c.args.path.now (c.loop-at.at - 1) _ _
          ((c.loop-at.invariant.row f is).1 (c.loop-at.at - 1) (omega arith))
          (c.ends_at-ends_folders.ensures ∙ ends-is f c.args.path.now (c.loop-at.at - 1) c.loop-at.at
          c.loop-at.ends_folders c.loop-at.after (omega arith) within (c.loop-at.invariant.ends f is)
          (c.loop-at.invariant.after f is)));
      after = λ f is. (c.loop-at.invariant.row f is).1 (c.loop-at.at - 1) (omega arith);
      ends = λ f is. c.ends_at-ends_folders.ensures ∙ ends-is f c.args.path.now (c.loop-at.at - 1)
          c.loop-at.at c.loop-at.ends_folders c.loop-at.after (omega arith) within
          (c.loop-at.invariant.ends f is) (c.loop-at.invariant.after f is);
    }

pub returns : goal.returns
returns c = λ f is.
    row-high c.loop-at.at f (step Folders f) c.args.path.now c.loop-at.row c.loop-at-test.false
    (c.loop-at.invariant.row f is)
