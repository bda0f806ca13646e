use Rattle.std.proofs.Common.{◌==◌, ℕ, count_by, drop, ap, ◌∙◌, arith, take_all}
use Rattle.grep_lines.proofs.counts.count_wide.Goals as goal

pub returns : goal.returns
returns c = c.count_wide_vector.ensures
    ∙ ap (λ xs. count_by (λ (b : ℕ). b == c.args.terminator) (drop c.args.skipped xs))
    (take_all 64 c.args.part.now (omega arith))
