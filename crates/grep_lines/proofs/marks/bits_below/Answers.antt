use Rattle.std.proofs.Common.{ℕ, ◌-◌, sym, ap, ◌∙◌, arith, bit_and, pow_pos}
use Rattle.std.specs.Int.{bit_at}
use Rattle.memchr.proofs.lemmas.BitLemmas.{bit_at_low_kept, bit_at_low_only, shl_one}
use Rattle.grep_lines.proofs.marks.bits_below.Goals as goal

pub overflow_sub-result : goal.overflow_sub-result
overflow_sub-result c = omega (arith, shl_one c.args.count c.requires, pow_pos c.args.count)

pub returns : goal.returns
returns c =
    let same = λ (k : ℕ). ap (λ x. bit_at (bit_and c.args.mask (x - 1)) k)
    (shl_one c.args.count c.requires) in
    record {
      kept = λ k less. same k ∙ bit_at_low_kept c.args.mask c.args.count k less;
      below = λ k set. bit_at_low_only c.args.mask c.args.count k (sym (same k) ∙ set);
    }
