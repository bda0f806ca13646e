use Rattle.std.proofs.Common.{◌+◌, arith}
use Rattle.memchr.proofs.lemmas.FindLemmas.{Nowhere-then}
use Rattle.grep_matcher.proofs.FromLemmas.{window-first, window-none}
use Rattle.grep_regex.proofs.windows.skip.Goals as goal

pub windows-init : goal.windows-init
windows-init g c = record {
  low = omega arith;
  near = omega (arith, c.if-haystack-start.false, c.requires.some);
  passed = λ k low below may. absurd (omega arith);
}

pub returns-then-marks-ne0-clause-passed : goal.returns-then-marks-ne0-clause-passed
returns-then-marks-ne0-clause-passed g c =
    Nowhere-then c.windows.invariant.passed
    (window-first (g.T.Target.may_follow c.args.target.now) c.windows.from (c.min-position.result + 32)
    c.marks_from-marks.result c.marks_from-marks.ensures
    (omega (arith, c.if-marks-ne0.true)) (omega (arith, c.marks_from-marks.type_inv)) c.min.result
    (omega (arith, c.min.ensures)) (omega (arith, c.min.ensures)))

pub returns-then-from-last-clause-passed : goal.returns-then-from-last-clause-passed
returns-then-from-last-clause-passed g c =
    Nowhere-then c.windows.invariant.passed (λ k low below.
    window-none (g.T.Target.may_follow c.args.target.now) c.windows.from (c.min-position.result + 32)
    c.marks_from-marks.result c.marks_from-marks.ensures
    c.if-marks-ne0.false k low (omega (arith, c.min-position.ensures, c.if-from-last.true, below)))

pub windows-preserved : goal.windows-preserved
windows-preserved g c = record {
  low = omega (arith, c.windows.invariant.low, c.skip_pairs-next.ensures.low);
  near = c.skip_pairs-next.ensures.near;
  passed = Nowhere-then c.windows.invariant.passed (Nowhere-then (λ k low below.
      window-none (g.T.Target.may_follow c.args.target.now) c.windows.from (c.min-position.result + 32)
      c.marks_from-marks.result c.marks_from-marks.ensures c.if-marks-ne0.false k low
      (omega (arith, c.min-position.ensures, c.if-from-last.false, below))) c.skip_pairs-next.ensures.passed);
}

pub returns-then-is_found-clause-passed : goal.returns-then-is_found-clause-passed
returns-then-is_found-clause-passed g c =
    Nowhere-then c.windows.invariant.passed (Nowhere-then (λ k low below.
    window-none (g.T.Target.may_follow c.args.target.now) c.windows.from (c.min-position.result + 32)
    c.marks_from-marks.result c.marks_from-marks.ensures c.if-marks-ne0.false k low
    (omega (arith, c.min-position.ensures, c.if-from-last.false, below))) c.skip_pairs-next.ensures.passed)
