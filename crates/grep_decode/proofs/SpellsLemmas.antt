-- The scalar values of UTF-16 are those that the relation allows, and no others.
use Rattle.std.proofs.Common.{◌≡◌, ℕ, Bool, true, false, cond, ◌||◌, List, [], ◌∷◌, refl, sym, ap}
use Rattle.std.proofs.Common.{subst, ◌∙◌, inl, inr, arith}
use Rattle.std.proofs.lemmas.Bool.Decides.{nat_tests}
use Rattle.std.proofs.lemmas.Bool.{cases_Bool, false≢true}
use Rattle.std.specs.Char.Utf16.{is_low_surrogate, is_high_surrogate, surrogate_pair_char}
use Rattle.grep_decode.specs.Spellings.{replacement, is_surrogate, Spells, at_end, at_odd, plain}
use Rattle.grep_decode.specs.Spellings.{pair, low, high, waiting}
use Rattle.grep_decode.specs.Decoded.{alone, scalars_of}
use Rattle.grep_decode.proofs.Utf16Lemmas.{scalars_of-alone, scalars_of-high, scalars_of-pair}

-- what stands alone, by its test
alone-is : (u : ℕ) (b : Bool) → is_surrogate u ≡ b → alone u ≡ cond b replacement u
alone-is u b e = ap (λ v. cond v replacement u) e

surrogate-low : (u : ℕ) (b : Bool) → is_high_surrogate u ≡ false → is_low_surrogate u ≡ b
    → is_surrogate u ≡ b
surrogate-low u b not is = ap (λ v. v || is_low_surrogate u) not ∙ is

surrogate-high : (u : ℕ) → is_high_surrogate u ≡ true → is_surrogate u ≡ true
surrogate-high u lead = ap (λ v. v || is_low_surrogate u) lead

spells-end : (odd : Bool) → Spells odd [] (scalars_of odd [])
unfolding scalars_of
spells-end odd = elim odd as (λ b. Spells b [] (cond b (replacement ∷ []) []))
    [ true ↦ at_odd refl | false ↦ at_end refl ]

spells-waiting : (odd : Bool) (u : ℕ) → is_high_surrogate u ≡ true
    → Spells odd (u ∷ []) (scalars_of odd (u ∷ []))
unfolding scalars_of
spells-waiting odd u lead = rw lead (waiting u lead)

spells-alone : (odd : Bool) (u : ℕ) (units : List ℕ) → is_high_surrogate u ≡ false
    → Spells odd units (scalars_of odd units) → Spells odd (u ∷ units) (scalars_of odd (u ∷ units))
spells-alone odd u units not rest =
    let P : List ℕ → Type 0 = Spells odd (u ∷ units) in
    let Q : ℕ → Type 0 = λ c. Spells odd (u ∷ units) (c ∷ scalars_of odd units) in
    subst P (sym (scalars_of-alone odd u units not)) (elim (cases_Bool (is_low_surrogate u)) [
      | inl is ↦ subst Q (sym (alone-is u true (surrogate-low u true not is)))
          (low u units _ is rest)
      | inr is ↦ subst Q (sym (alone-is u false (surrogate-low u false not is)))
          (plain u units _ (surrogate-low u false not is) rest)
    ])

spells-lead : (odd : Bool) (u v : ℕ) (units : List ℕ) → is_high_surrogate u ≡ true
    → Spells odd units (scalars_of odd units) → Spells odd (v ∷ units) (scalars_of odd (v ∷ units))
    → Spells odd (u ∷ v ∷ units) (scalars_of odd (u ∷ v ∷ units))
spells-lead odd u v units lead rest next =
    let P : List ℕ → Type 0 = Spells odd (u ∷ v ∷ units) in
    let Q : ℕ → Type 0 = λ c. Spells odd (u ∷ v ∷ units) (c ∷ scalars_of odd (v ∷ units)) in
    elim (cases_Bool (is_low_surrogate v)) [
      | inl is ↦ subst P (sym (scalars_of-pair odd u v units lead is))
          (pair u v units _ lead is rest)
      | inr is ↦ subst P (sym (scalars_of-high odd u v units lead is))
          (subst Q (sym (alone-is u true (surrogate-high u lead))) (high u v units _ lead is next))
    ]

-- the scalar values are allowed
pub Spells-scalars_of : (odd : Bool) (units : List ℕ) → Spells odd units (scalars_of odd units)
Spells-scalars_of odd [] = spells-end odd
Spells-scalars_of odd (u ∷ []) = elim (cases_Bool (is_high_surrogate u)) [
  | inl lead ↦ spells-waiting odd u lead
  | inr not ↦ spells-alone odd u [] not (spells-end odd)
]
Spells-scalars_of odd (u ∷ v ∷ units) =
    elim (cases_Bool (is_high_surrogate u)) [
      | inl lead ↦ spells-lead odd u v units lead (Spells-scalars_of odd units)
          (Spells-scalars_of odd (v ∷ units))
      | inr not ↦ spells-alone odd u (v ∷ units) not (Spells-scalars_of odd (v ∷ units))
    ]

low-not_high : (u : ℕ) → is_low_surrogate u ≡ true → is_high_surrogate u ≡ false
low-not_high u is = grind (arith, nat_tests)

plain-not_high : (u : ℕ) → is_surrogate u ≡ false → is_high_surrogate u ≡ false
plain-not_high u none = elim (cases_Bool (is_high_surrogate u)) [
  | inl lead ↦ absurd (false≢true (sym none ∙ surrogate-high u lead))
  | inr not ↦ not
]

-- and no others
pub scalars_of-Spells : (odd : Bool) (units chars : List ℕ) → Spells odd units chars → chars
    ≡ scalars_of odd units
unfolding scalars_of
scalars_of-Spells odd _ _ (at_end none) = rw none refl
scalars_of-Spells odd _ _ (at_odd is) = rw is refl
scalars_of-Spells odd _ _ (plain u units chars none rest) =
    ap (λ l. u ∷ l) (scalars_of-Spells odd units chars rest)
    ∙ ap (λ k. k ∷ scalars_of odd units) (sym (alone-is u false none))
    ∙ sym (scalars_of-alone odd u units (plain-not_high u none))
scalars_of-Spells odd _ _ (pair u v units chars lead also rest) =
    ap (λ l. surrogate_pair_char u v ∷ l) (scalars_of-Spells odd units chars rest)
    ∙ sym (scalars_of-pair odd u v units lead also)
scalars_of-Spells odd _ _ (low u units chars is rest) =
    let not = low-not_high u is in
    ap (λ l. replacement ∷ l) (scalars_of-Spells odd units chars rest)
    ∙ ap (λ k. k ∷ scalars_of odd units) (sym (alone-is u true (surrogate-low u true not is)))
    ∙ sym (scalars_of-alone odd u units not)
scalars_of-Spells odd _ _ (high u v units chars lead is rest) =
    ap (λ l. replacement ∷ l) (scalars_of-Spells odd (v ∷ units) chars rest)
    ∙ ap (λ k. k ∷ scalars_of odd (v ∷ units)) (sym (alone-is u true (surrogate-high u lead)))
    ∙ sym (scalars_of-high odd u v units lead is)
scalars_of-Spells odd _ _ (waiting u lead) = rw lead refl
