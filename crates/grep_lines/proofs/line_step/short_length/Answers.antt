use Rattle.std.proofs.Common.{◌≡◌, ◌↔◌, ◌∙◌, ◌+◌, ◌-◌, ◌<◌, ℕ, ap, arith, length, slice_index, sym, ⊎_elim}
use Rattle.std.proofs.lemmas.Bool.{cases_lt}
use Rattle.std.proofs.lemmas.Nat.Bits.{bit_at-zero}
use Rattle.std.specs.Int.{bit_at}
use Rattle.grep_lines.proofs.line_step.short_length.Goals as goal

-- no byte is marked in an empty mask
unmarked : {A : ℕ → Type 0} (mask : ℕ) → ((k : ℕ) → k < 32 → (bit_at mask k ≡ 1) ↔ A k) → mask ≡ 0
    → (k : ℕ) → k < 32 → A k → ⊥
unmarked mask marks none k below is =
    omega (arith, (marks k below).1 is, ap (λ m. bit_at m k) none, bit_at-zero k)

pub returns-then-front-ne0 : goal.returns-then-front-ne0
returns-then-front-ne0 c =
    let bits = c.lowest.ensures in
    let few = c.half_marks-front.ensures.few c.lowest.result bits.set in
    let bytes = c.args.bytes.now in
    let zero : (k : ℕ) → 0 + k ≡ k = (λ k. omega arith) in
    let at : (c.lowest.result + 1) - 1 ≡ c.lowest.result = omega arith in record {
      above = omega arith;
      within = omega (arith, few, c.if-bytes-lt-HALF.false);
      inner = λ i less same.
          let set = (c.half_marks-front.ensures.marked i (omega (arith, few, less))).1
          (ap (slice_index bytes) (zero i) ∙ same) in
          omega (arith, bits.below i (omega (arith, less)), set);
      closed = λ _. ap (slice_index bytes) at ∙ (sym (ap (slice_index bytes) (zero c.lowest.result))
          ∙ (c.half_marks-front.ensures.marked c.lowest.result few).0 bits.set);
    }

pub returns-then-back-ne0 : goal.returns-then-back-ne0
returns-then-back-ne0 c =
    let bits = c.lowest-then-back-ne0.ensures in
    let last = c.lowest-then-back-ne0.result in
    let from = length c.args.bytes.now - 32 in
    let few = c.half_marks-back.ensures.few last bits.set in
    let bytes = c.args.bytes.now in
    let at : (from + last + 1) - 1 ≡ from + last = omega arith in record {
      above = omega arith;
      within = omega (arith, few, c.if-bytes-lt-HALF.false);
      inner = λ i less. ⊎_elim (λ low same. unmarked c.half_marks-front.result c.half_marks-front.ensures.marked
          c.if-front-ne0.false i (omega (arith, low)) (ap (slice_index bytes) (omega arith) ∙ same))
          (λ high same.
          let back : from + (i - from) ≡ i = omega (arith, high, c.requires.few) in
          let set = (c.half_marks-back.ensures.marked (i - from) (omega (arith, few, less, high, c.requires.few))).1
          (ap (slice_index bytes) back ∙ same) in
          omega (arith, bits.below (i - from) (omega (arith, less, high, c.requires.few)), set)) (cases_lt i 32);
      closed = λ _. ap (slice_index bytes) at ∙ (c.half_marks-back.ensures.marked last few).0 bits.set;
    }

pub returns : goal.returns
returns c =
    let bytes = c.args.bytes.now in
    let from = length bytes - 32 in
    record {
      above = c.requires.some;
      within = omega arith;
      inner = λ i less. ⊎_elim (λ low same. unmarked c.half_marks-front.result c.half_marks-front.ensures.marked
          c.if-front-ne0.false i (omega (arith, low)) (ap (slice_index bytes) (omega arith) ∙ same))
          (λ high same. unmarked c.half_marks-back.result c.half_marks-back.ensures.marked c.if-back-ne0.false (i - from)
          (omega (arith, less, high, c.if-bytes-lt-HALF.false))
          (ap (slice_index bytes) (omega (arith, high, c.requires.few)) ∙ same)) (cases_lt i 32);
      closed = λ less. absurd (omega (arith, less));
    }
