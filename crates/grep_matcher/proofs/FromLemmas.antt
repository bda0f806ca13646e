-- A search for a literal from a position of a haystack on.
use Rattle.std.proofs.Common.{◌≡◌, ℕ, ◌+◌, ◌-◌, ◌<◌, ◌≤◌, List, length, drop, Option, Some, None, sym, arith}
use Rattle.std.proofs.Common.{ap, ap₂, length-drop, take, ◌∙◌, ◌^◌, ⊎_elim, ◌++◌, true, refl, subst, get_or}
use Rattle.std.proofs.Common.{length-append}
use Rattle.std.proofs.Math.Seq.{take-length}
use Rattle.std.proofs.lemmas.Nat.Bits.{bit_at-trailing_zeros, bit_at-zero}
use Rattle.std.proofs.lemmas.Bool.{cases_lt}
use Rattle.std.proofs.lemmas.Bool.Decides.{Decides-eqb}
use Rattle.std.proofs.lemmas.Slice.Eq.{starts_is}
use Rattle.std.specs.List.{starts_with}
use Rattle.std.specs.Prelude.{nat_eq}
use Rattle.std.specs.Int.{bit_at, trailing_zeros, w64}
use Rattle.std.proofs.lemmas.List.{get_or-drop, get_or_append_left}
use Rattle.memchr.specs.Find.{FindsNeedle, IsFirst, Nowhere, OccursAt}
use Rattle.grep_matcher.specs.FindResults.{match_from}
use Rattle.grep_matcher.specs.LiteralFirstMatches.{OccursAt-inner, OccursAt-outer, match-found, match-none}
use Rattle.grep_matcher.specs.Literals.{literal_match}

-- the bytes up to the end are all that are left
pub rest-is : (hay : List ℕ) (start : ℕ) → take (length hay - start) (drop start hay) ≡ drop start hay
rest-is hay start =
    ap (λ n. take n (drop start hay)) (sym (length-drop start hay)) ∙ take-length (drop start hay)

-- a search from a position before which there is nothing
pub finds-after : (P : ℕ → Type 0) (start at high : ℕ) (found : Option ℕ) → start ≤ at → Nowhere P start at
    → IsFirst P at high found → IsFirst P start high found
finds-after P start at high None ordered passed none = λ k low below holds.
    ⊎_elim (λ less. passed k low less holds) (λ over. none k over below holds) (cases_lt k at)
finds-after P start at high (Some k) ordered passed found = (
  record {
    low = omega (arith, ordered, found.0.low);
    high = found.0.high;
    before = λ j low below holds.
        ⊎_elim (λ less. passed j low less holds) (λ over. found.0.before j over below holds) (cases_lt j at);
  },
  found.1,
)

-- a mask of some positions
module _ (P : ℕ → Type 0) (from end mask : ℕ)
    (marks : (k : ℕ) → from ≤ k → k < end → P k → bit_at mask (k - from) ≡ 1) where
  pub window-none : mask ≡ 0 → Nowhere P from end
  window-none none k low below holds =
      absurd (omega (arith, marks k low below holds, ap (λ m. bit_at m (k - from)) none, bit_at-zero (k - from)))

  pub window-first : 0 < mask → mask < 2 ^ 64 → (at : ℕ) → at ≤ end → at ≤ from + trailing_zeros w64 mask
      → Nowhere P from at
  window-first some fits at within low k above below holds =
      let first = bit_at-trailing_zeros w64 mask some fits in
      absurd (omega (arith, marks k above (omega arith) holds, first.2 (k - from) (omega arith)))

-- the lowest bit of a mask is set
pub lowest-set : (mask : ℕ) → 0 < mask → mask < 2 ^ 64 → bit_at mask (trailing_zeros w64 mask) ≡ 1
lowest-set mask some fits = (bit_at-trailing_zeros w64 mask some fits).1

module _ (hay literal : List ℕ) (start : ℕ) (within : start ≤ length hay) where
  rest-here : OccursAt hay (drop start hay) start
  rest-here = record {
    fits = omega (arith, length-drop start hay);
    reads = λ j below. sym (get_or-drop start hay j 0);
  }

  outer : (k : ℕ) → OccursAt (drop start hay) literal k → OccursAt hay literal (start + k)
  outer k occurs = OccursAt-outer hay (drop start hay) literal start k rest-here occurs

  inner : (k : ℕ) → start ≤ k → OccursAt hay literal k → OccursAt (drop start hay) literal (k - start)
  inner k low occurs = OccursAt-inner hay (drop start hay) literal start k rest-here occurs low
      (omega (arith, occurs.fits, length-drop start hay))

  -- the bytes there begin with the literal
  pub begins-here : starts_with nat_eq (drop start hay) literal ≡ true → OccursAt hay literal start
  begins-here begins =
      let rest = drop start hay in
      let joined : rest ≡ literal ++ drop (length literal) rest = (starts_is Decides-eqb rest literal _ refl).0 begins in
      let none : start + 0 ≡ start = omega arith in
      subst (OccursAt hay literal) none (outer 0 (record {
        fits = omega (arith, ap length joined, length-append literal (drop (length literal) rest));
        reads = λ j below.
            let first : 0 + j ≡ j = omega arith in
            ap₂ (λ xs k. get_or xs k 0) joined first ∙ get_or_append_left literal (drop (length literal) rest) 0 j below;
      }))

  -- what is found in the bytes from there on
  pub found-from : (at : ℕ) → FindsNeedle (drop start hay) literal 0 (Some at)
      → FindsNeedle hay literal start (Some (start + at))
  found-from at found = (
    record {
      low = omega arith;
      high = omega (arith, found.1.fits, length-drop start hay);
      before = λ k low below occurs. found.0.before (k - start) (omega arith) (omega (arith, low, below))
          (inner k low occurs);
    },
    outer at found.1,
  )

  pub none-from : FindsNeedle (drop start hay) literal 0 None → FindsNeedle hay literal start None
  none-from none k low below occurs =
      let inside = inner k low occurs in
      none (k - start) (omega arith) (omega (arith, inside.fits)) inside

  -- and the other way round
  pub from-found : (at : ℕ) → FindsNeedle hay literal start (Some at)
      → FindsNeedle (drop start hay) literal 0 (Some (at - start))
  from-found at found = (
    record {
      low = omega arith;
      high = omega (arith, (inner at found.0.low found.1).fits);
      before = λ k low below occurs. found.0.before (start + k) (omega arith)
          (omega (arith, below, found.0.low)) (outer k occurs);
    },
    inner at found.0.low found.1,
  )

  pub from-none : FindsNeedle hay literal start None → FindsNeedle (drop start hay) literal 0 None
  from-none none k low below occurs =
      let out = outer k occurs in none (start + k) (omega arith) (omega (arith, out.fits)) out

  -- the match that is found, and that there is none
  pub match-from : (at : ℕ) → FindsNeedle hay literal start (Some at)
      → ◌≡◌ {A = Option (ℕ × ℕ)} (Some (at, at + length literal))
      (match_from start (literal_match literal (drop start hay)))
  match-from at found =
      let low = found.0.low in
      let begins : at ≡ start + (at - start) = omega arith in
      let ends : at + length literal ≡ start + ((at - start) + length literal) = omega arith in
      let pair : ℕ → ℕ → Option (ℕ × ℕ) = λ a b. Some (a, b) in
      ap₂ pair begins ends
      ∙ ap (match_from start) (match-found (drop start hay) literal (at - start) (from-found at found))

  pub no-match-from : FindsNeedle hay literal start None
      → ◌≡◌ {A = Option (ℕ × ℕ)} None (match_from start (literal_match literal (drop start hay)))
  no-match-from none = ap (match_from start) (match-none (drop start hay) literal (from-none none))
