-- What a mask of the bytes from a position on says of them, and of the last start of a line.
use Rattle.std.proofs.Common.{◌≡◌, ◌≢◌, ◌↔◌, ◌<◌, ◌≤◌, ◌+◌, ◌-◌, ◌%◌, ◌^◌, ℕ, List, slice_index}
use Rattle.std.proofs.Common.{sym, ap, ◌∙◌, arith, ⊎_elim, Bool, true, false, cond, eqb}
use Rattle.std.proofs.lemmas.Bool.{cases_lt, eqb-true, eq-eqb, false≢true}
use Rattle.std.proofs.Math.Nat.{zero-div}
use Rattle.std.specs.Int.{bit_at}
use Rattle.grep_lines.specs.FirstLine.{IsLastStart}

-- a bit is set if two numbers are equal
pub is-set : (x t bit : ℕ) (same : Bool) → eqb x t ≡ same → bit ≡ cond same 1 0 → (bit ≡ 1) ↔ (x ≡ t)
is-set x t bit true equal is = (λ _. eqb-true x t equal, λ _. is)
is-set x t bit false other is =
    (λ set. absurd (omega (arith, is)), λ same. absurd (false≢true (sym other ∙ eq-eqb x t same)))

module _ (t : ℕ) (bytes : List ℕ) (position from mask near : ℕ) (low : from ≤ position)
    (near_by : position < from + 64)
    (marks : (k : ℕ) → k < 64 → (bit_at mask k ≡ 1) ↔ (slice_index bytes (from + k) ≡ t))
    (kept : (k : ℕ) → k < position - from → bit_at near k ≡ bit_at mask k) where
  -- a byte without a mark is another one
  unmarked : (i : ℕ) → from ≤ i → i < position → bit_at near (i - from) ≡ 0 → slice_index bytes i
      ≢ t
  unmarked i above below none same =
      let at : from + (i - from) ≡ i = omega (arith, above) in
      let set = (marks (i - from) (omega arith)).1 (ap (slice_index bytes) at ∙ same) in
      omega (arith, kept (i - from) (omega arith), none, set)

  -- no line starts after the first of the bytes if none of them is marked
  pub start-before : (start : ℕ) → near ≡ 0 → IsLastStart t bytes from start
      → IsLastStart t bytes position start
  start-before start none last = record {
    high = omega (arith, last.high, low);
    inner = λ i above below. ⊎_elim (λ less. last.inner i above less)
        (λ over. unmarked i (omega arith) below (ap (λ n. bit_at n (i - from)) none
        ∙ ap (λ n. n % 2) (zero-div (2 ^ (i - from))))) (cases_lt i from);
    closed = last.closed;
  }

  -- a line starts after the last one that is marked
  pub start-marked : (last : ℕ) → last < position - from → bit_at near last ≡ 1
      → ((k : ℕ) → last < k → bit_at near k ≡ 0) → IsLastStart t bytes position (from + last + 1)
  start-marked last less set above = record {
    high = omega (arith, less);
    inner = λ i after below. unmarked i (omega (arith, after)) below
        (above (i - from) (omega (arith, after)));
    closed = λ _. let at : (from + last + 1) - 1 ≡ from + last = omega arith in
        ap (slice_index bytes) at ∙ (marks last (omega (arith, less))).0 (sym (kept last less)
        ∙ set);
  }
