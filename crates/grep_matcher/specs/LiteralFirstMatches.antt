-- What the matcher of a literal finds from positions on are first matches. This is the proof of a
-- law of `FindAt`, which may cite `specs` alone.
use Rattle.std.proofs.Common.{◌≡◌, ◌⊎◌, inl, inr, ℕ, zero, suc, ◌+◌, ◌-◌, ◌<◌, ◌≤◌, List, drop}
use Rattle.std.proofs.Common.{length, slice_index, Option, Some, None, sym, ◌∙◌, ap, ap₂, subst}
use Rattle.std.proofs.Common.{refl, arith, ⊎_elim, zero-add, length-drop}
use Rattle.std.proofs.lemmas.Bool.{cases_Bool, cases_lt, false≢true}
use Rattle.std.proofs.lemmas.List.{get_or-drop}
use Rattle.std.specs.Option.{option_map}
use Rattle.std.specs.Prelude.{IfSome}
use Rattle.memchr.specs.Find.{OccursAt, NoneBefore, FindsNeedle, occurs_at}
use Rattle.memchr.proofs.lemmas.MatchLemmas.{OccursAt-true, occurs_at-true}
use Rattle.memchr.proofs.lemmas.ValueLemmas.{FindsNeedle-value}
use Rattle.grep_matcher.specs.FindResults.{IsFrom, match_from}
use Rattle.grep_matcher.specs.FirstMatches.{AreFirstMatches}
use Rattle.grep_matcher.specs.Literals.{literal_match}

-- what occurs in a part of a haystack occurs in the haystack
pub OccursAt-outer : (hay part literal : List ℕ) (start k : ℕ) → OccursAt hay part start
    → OccursAt part literal k → OccursAt hay literal (start + k)
OccursAt-outer hay part literal start k outer inner = record {
  fits = omega (arith, outer.fits, inner.fits);
  reads = λ j below. let sum : start + k + j ≡ start + (k + j) = omega arith in
      rw sum (outer.reads (k + j) (omega (arith, inner.fits)) ∙ inner.reads j below);
}

-- what occurs in a haystack within a part of it occurs in that part
pub OccursAt-inner : (hay part literal : List ℕ) (start k : ℕ) → OccursAt hay part start
    → OccursAt hay literal k → start ≤ k → k + length literal ≤ start + length part
    → OccursAt part literal (k - start)
OccursAt-inner hay part literal start k outer whole low high = record {
  fits = omega arith;
  reads = λ j below. let sum : k + j ≡ start + ((k - start) + j) = omega arith in
      sym (outer.reads ((k - start) + j) (omega arith))
      ∙ (ap (slice_index hay) (sym sum) ∙ whole.reads j below);
}

module _ (hay literal : List ℕ) where
  abbrev with_end : ℕ → ℕ × ℕ
  with_end start = (start, start + length literal)

  pub match-found : (start : ℕ) → FindsNeedle hay literal 0 (Some start)
      → ◌≡◌ {A = Option (ℕ × ℕ)} (Some (start, start + length literal)) (literal_match literal hay)
  match-found start found =
      ap (option_map with_end) (FindsNeedle-value hay literal (Some start) found)

  pub match-none : FindsNeedle hay literal 0 None
      → ◌≡◌ {A = Option (ℕ × ℕ)} None (literal_match literal hay)
  match-none none = ap (option_map with_end) (FindsNeedle-value hay literal None none)

  -- a literal occurs at none of the first positions, or first at one of them
  first-below : (n : ℕ) → ((k : ℕ) → k < n → OccursAt hay literal k → ⊥)
      ⊎ ((k : ℕ) × NoneBefore (OccursAt hay literal) 0 n k × OccursAt hay literal k)
  first-below zero = inl (λ k below occurs. absurd (omega arith))
  first-below (suc n) = ⊎_elim
      (λ none. ⊎_elim
      (λ does. inr (
        n,
        record {
          low = omega arith;
          high = omega arith;
          before = λ j low high occurs. none j high occurs;
        },
        OccursAt-true hay literal n does,
      ))
      (λ doesnt. inl (λ k below occurs. ⊎_elim
      (λ (sooner : k < n). none k sooner occurs)
      (λ (here : n ≤ k).
      let same : k ≡ n = omega arith in
      false≢true
      (sym doesnt ∙ occurs_at-true hay literal n (subst (OccursAt hay literal) same occurs)))
      (cases_lt k n)))
      (cases_Bool (occurs_at hay literal n)))
      (λ found. inr (
        found.0,
        record { low = omega arith; high = omega (arith, found.1.high); before = found.1.before },
        found.2,
      ))
      (first-below n)

  -- it occurs nowhere, or there is a first occurrence
  pub found-or-none :
      FindsNeedle hay literal 0 None ⊎ ((k : ℕ) × FindsNeedle hay literal 0 (Some k))
  found-or-none = ⊎_elim
      (λ none. inl (λ k low high occurs. none k high occurs))
      (λ found. inr (found.0, (found.1, found.2)))
      (first-below (length hay + 1))

from-zero : (found : Option (ℕ × ℕ)) → match_from 0 found ≡ found
from-zero None = refl
from-zero (Some m) =
    let pair : ℕ → ℕ → Option (ℕ × ℕ) = λ a b. Some (a, b) in
    ap₂ pair (zero-add m.0) (zero-add m.1)

module _ (literal hay : List ℕ) where
  abbrev first_at : ℕ → Option (ℕ × ℕ)
  first_at start = match_from start (literal_match literal (drop start hay))

  first-none : (start : ℕ) → FindsNeedle (drop start hay) literal 0 None → first_at start ≡ None
  first-none start none = ap (match_from start) (sym (match-none (drop start hay) literal none))

  first-some : (start k : ℕ) → FindsNeedle (drop start hay) literal 0 (Some k)
      → first_at start ≡ Some (start + k, start + (k + length literal))
  first-some start k found =
      ap (match_from start) (sym (match-found (drop start hay) literal k found))

  first-within : (start : ℕ) → start ≤ length hay → IsFrom start hay (first_at start)
  first-within start fits = ⊎_elim
      (λ none. subst (IsFrom start hay) (sym (first-none start none)) (tt, tt))
      (λ some.
      let inside = some.1.1.fits in
      subst (IsFrom start hay) (sym (first-some start some.0 some.1))
      (omega arith, (omega arith, omega (arith, inside, length-drop start hay))))
      (found-or-none (drop start hay) literal)

  -- what follows a later position is a part of what follows a position
  later-part : (start later : ℕ) → start ≤ later → later ≤ length hay
      → OccursAt (drop start hay) (drop later hay) (later - start)
  later-part start later ordered fits = record {
    fits = omega (arith, length-drop start hay, length-drop later hay);
    reads = λ j below.
        let sum : start + (later - start + j) ≡ later + j = omega arith in
        get_or-drop start hay (later - start + j) 0
        ∙ (ap (slice_index hay) sum ∙ sym (get_or-drop later hay j 0));
  }

  first-same : (start later : ℕ) → start ≤ later → later ≤ length hay
      → IfSome (first_at start) (λ found. later ≤ found.0) → first_at later ≡ first_at start
  first-same start later ordered fits starts = ⊎_elim
      (λ none. first-none later (λ k low high occurs.
      let out = outer k occurs in
      none (later - start + k) (omega arith) (omega (arith, out.fits)) out)
      ∙ sym (first-none start none))
      (λ some.
      let k : ℕ = some.0 in
      let low : later ≤ start + some.0 =
      subst (λ o. IfSome o (λ found. later ≤ found.0)) (first-some start some.0 some.1) starts in
      let inside = some.1.1.fits in
      let inner = OccursAt-inner (drop start hay) (drop later hay) literal (later - start) some.0
      (later-part start later ordered fits) some.1.1 (omega arith)
      (omega (arith, inside, length-drop start hay, length-drop later hay)) in
      let first : NoneBefore (OccursAt (drop later hay) literal) 0 (length (drop later hay) + 1)
      (some.0 - (later - start)) = record {
        low = omega arith;
        high = omega (arith, inner.fits);
        before = λ j from below occurs.
            some.1.0.before (later - start + j) (omega arith) (omega arith) (outer j occurs);
      } in
      let begins : later + (some.0 - (later - start)) ≡ start + some.0 = omega arith in
      let ends :
      later + (some.0 - (later - start) + length literal) ≡ start + (some.0 + length literal)
      = omega arith in
      let pair : ℕ → ℕ → Option (ℕ × ℕ) = λ a b. Some (a, b) in
      first-some later (some.0 - (later - start)) (first, inner)
      ∙ (ap₂ pair begins ends ∙ sym (first-some start some.0 some.1)))
      (found-or-none (drop start hay) literal)
    where
      outer : (k : ℕ) → OccursAt (drop later hay) literal k
          → OccursAt (drop start hay) literal (later - start + k)
      outer k occurs = OccursAt-outer (drop start hay) (drop later hay) literal (later - start) k
          (later-part start later ordered fits) occurs

-- its matches from positions on are first matches
pub literal-first-matches : (literal hay : List ℕ) → AreFirstMatches hay (literal_match literal hay)
    (λ start. match_from start (literal_match literal (drop start hay)))
literal-first-matches literal hay = record {
  whole = from-zero (literal_match literal hay);
  within = first-within literal hay;
  same = first-same literal hay;
}
