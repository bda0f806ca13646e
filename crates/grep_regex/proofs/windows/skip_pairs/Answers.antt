use Rattle.std.proofs.Common.{◌+◌, arith}
use Rattle.memchr.proofs.lemmas.FindLemmas.{Nowhere-then}
use Rattle.grep_matcher.proofs.FromLemmas.{window-first, window-none}
use Rattle.grep_regex.proofs.windows.skip_pairs.Goals as goal

pub returns-then-marks-ne0-clause-passed : goal.returns-then-marks-ne0-clause-passed
returns-then-marks-ne0-clause-passed g c =
    Nowhere-then c.pairs.invariant.passed
    (window-first (g.T.Target.may_follow c.args.target.now) c.pairs.at (c.pairs.at + 64) c.marks_of_two-marks.result
    c.marks_of_two-marks.ensures (omega (arith, c.if-marks-ne0.true)) (omega (arith, c.marks_of_two-marks.type_inv)) _
    (omega (arith, c.min.ensures)) (omega (arith, c.min.ensures)))

pub pairs-preserved : goal.pairs-preserved
pairs-preserved g c = record {
  low = omega (arith, c.pairs.invariant.low);
  near = omega (arith, c.pairs-test.true);
  passed = Nowhere-then c.pairs.invariant.passed
      (window-none (g.T.Target.may_follow c.args.target.now) c.pairs.at (c.pairs.at + 64) c.marks_of_two-marks.result
      c.marks_of_two-marks.ensures c.if-marks-ne0.false);
}
