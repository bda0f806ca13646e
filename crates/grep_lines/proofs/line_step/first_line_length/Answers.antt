use Rattle.std.proofs.Common.{arith, ◌≡◌, ℕ, ap, sym, ◌∙◌, ◌+◌, ◌-◌, slice_index}
use Rattle.grep_lines.proofs.line_step.first_line_length.Goals as goal

pub returns : goal.returns
returns c =
    let bits = c.lowest.ensures in
    let last = c.lowest.result in
    let bytes = c.args.bytes.now in
    let zero : (k : ℕ) → 0 + k ≡ k = (λ k. omega arith) in
    let at : (last + 1) - 1 ≡ last = omega arith in record {
      above = omega arith;
      within = omega (arith, bits.bound, c.if-bytes-lt-WIDTH.false);
      inner = λ i less same.
          let set = (c.marks-near.ensures i (omega (arith, bits.bound, less))).1 (ap (slice_index bytes) (zero i) ∙ same) in
          omega (arith, bits.below i (omega (arith, less)), set);
      closed = λ _. ap (slice_index bytes) at ∙ (sym (ap (slice_index bytes) (zero last)) ∙ (c.marks-near.ensures last bits.bound).0 bits.set);
    }
