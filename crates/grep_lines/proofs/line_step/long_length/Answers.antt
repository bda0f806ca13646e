use Rattle.std.proofs.Common.{◌≡◌, ◌∙◌, ◌+◌, ◌-◌, ap, arith, slice_index, sym, ⊎_elim}
use Rattle.std.proofs.lemmas.Bool.{cases_lt}
use Rattle.grep_lines.proofs.line_step.long_length.Goals as goal

pub returns : goal.returns
returns c =
    let bits = c.lowest.ensures in
    let last = c.lowest.result in
    let bytes = c.args.bytes.now in
    let at : (64 + last + 1) - 1 ≡ 64 + last = omega arith in record {
      above = omega arith;
      within = omega (arith, bits.bound, c.if-bytes.false);
      inner = λ i less same. ⊎_elim (λ low. c.requires.unmarked i low same) (λ high.
          let there : 64 + (i - 64) ≡ i = omega (arith, high) in
          let set = (c.marks-next.ensures (i - 64) (omega (arith, bits.bound, less, high))).1
          (ap (slice_index bytes) there ∙ same) in
          omega (arith, bits.below (i - 64) (omega (arith, less, high)), set)) (cases_lt i 64);
      closed = λ _. ap (slice_index bytes) at ∙ (c.marks-next.ensures last bits.bound).0 bits.set;
    }
