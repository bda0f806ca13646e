use Rattle.std.proofs.Common.{◌≤◌, ◌+◌, eqb, ap, sym, subst, ◌∙◌, w8}
use Rattle.grep_lines.proofs.LaneLemmas.{equal-ones, few-added, ones-fit, sum-added}
use Rattle.grep_lines.proofs.counts.add_equal.Goals as goal
use lib.Lanes.{Each1, Each2, sum_l, zip2}
use mir.Val.{Fits}

pub overflow_add-result : goal.overflow_add-result
overflow_add-result c = subst (Each2 (λ a b. Fits w8 (a + b)) c.args.lanes)
    (sym (equal-ones c.args.bytes c.args.terminator c.fits-bytes.0))
    (ones-fit c.args.lanes c.args.bytes (λ x. eqb x c.args.terminator) c.requires)

pub returns-clause-sum : goal.returns-clause-sum
returns-clause-sum c = ap (λ ys. sum_l (zip2 (λ a b. a + b) c.args.lanes ys))
    (equal-ones c.args.bytes c.args.terminator c.fits-bytes.0)
    ∙ sum-added c.args.lanes c.args.bytes (λ x. eqb x c.args.terminator) (c.fits-lanes.0
    ∙ sym c.fits-bytes.0)

pub returns-clause-grown : goal.returns-clause-grown
returns-clause-grown c =
    λ most few. subst (λ ys. Each1 (λ n. n ≤ most + 1) (zip2 (λ a b. a + b) c.args.lanes ys))
    (sym (equal-ones c.args.bytes c.args.terminator c.fits-bytes.0))
    (few-added c.args.lanes c.args.bytes (λ x. eqb x c.args.terminator) most few)
