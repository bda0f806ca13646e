-- How the bytes that no literal has are found, step by step.
use Rattle.std.proofs.Common.{◌≡◌, ℕ, ◌+◌, ◌<◌, ◌||◌, ◌&&◌, ◌==◌, Bool, true, false, not, List, [], ◌∷◌, ◌++◌}
use Rattle.std.proofs.Common.{length, map, take, get_or, nat_lt, refl, sym, ap, ◌∙◌, subst, ⊎_elim, arith, Bor, ne_eqb}
use Rattle.std.proofs.Common.{eq-eqb}
use Rattle.std.proofs.lemmas.Bool.{and_right, cases_eq}
use Rattle.std.proofs.lemmas.Bool.Decides.{nat_tests}
use Rattle.std.proofs.lemmas.List.{map-append, take_more}
use Rattle.std.proofs.lemmas.List.Folds.{list_all_at, list_all-append, list_all-map, list_any-append}
use Rattle.std.specs.List.{list_all, list_any}
use Rattle.regex_hir.specs.Re.{Re}
use Rattle.regex_syntax.specs.Captures.{SameCaptures}
use Rattle.grep_regex.specs.AbsentBytes.{are_literal, is_plain}
use Rattle.grep_regex.specs.Alike.{AreAlike}
use Rattle.grep_regex.specs.Clear.{is_among}
use Rattle.grep_regex.specs.declared.options.Options.{Options}
use Rattle.grep_regex.proofs.WrittenLemmas.{alike-more}

-- ---- the bytes below a bound that pass a test

module _ (p : ℕ → Bool) (b other : ℕ) where
  pub bound-added : p b ≡ true → (other == b || p other && nat_lt other b) ≡ (p other && nat_lt other (b + 1))
  bound-added has = ⊎_elim
      (λ (same : other ≡ b).
      let passes : p other ≡ true = ap p same ∙ has in
      let low : nat_lt other (b + 1) ≡ true = grind (arith, nat_tests, same) in
      rw (eq-eqb other b same, passes, low) refl)
      (λ differs.
      let bounds : nat_lt other b ≡ nat_lt other (b + 1) = grind (arith, nat_tests, differs) in
      rw (ne_eqb other b differs) (ap (λ t. p other && t) bounds))
      (cases_eq other b)

  pub bound-passed : p b ≡ false → (p other && nat_lt other b) ≡ (p other && nat_lt other (b + 1))
  bound-passed hasnt = ⊎_elim
      (λ (same : other ≡ b).
      let fails : p other ≡ false = ap p same ∙ hasnt in
      rw fails refl)
      (λ differs.
      let bounds : nat_lt other b ≡ nat_lt other (b + 1) = grind (arith, nat_tests, differs) in
      ap (λ t. p other && t) bounds)
      (cases_eq other b)

-- ---- the texts of patterns

pub unplain : (o : Options) (patterns : List (List ℕ)) → list_all (is_plain o) patterns ≡ false
    → are_literal o patterns ≡ false
unplain o patterns fails = and_right (not o.case_insensitive) (list_all (is_plain o) patterns) fails

swap-not : (a e s : Bool) → (not e && (s && not a)) ≡ (s && not (a || (e || false)))
swap-not true true true = refl
swap-not true true false = refl
swap-not true false true = refl
swap-not true false false = refl
swap-not false true true = refl
swap-not false true false = refl
swap-not false false true = refl
swap-not false false false = refl

module _ (patterns : List (Bor (List ℕ))) (i : ℕ) (d : Bor (List ℕ)) (inside : i < length patterns) where
  abbrev texts : List (Bor (List ℕ)) → List (List ℕ)
  texts ps = map (λ (p : Bor (List ℕ)). p.now) ps

  texts-more : texts (take (i + 1) patterns) ≡ texts (take i patterns) ++ (get_or patterns i d).now ∷ []
  texts-more = ap texts (take_more patterns i d inside)
      ∙ map-append (λ (p : Bor (List ℕ)). p.now) (take i patterns) (get_or patterns i d ∷ [])

  pub all-more : (p : List ℕ → Bool) → list_all p (texts (take i patterns)) ≡ true
      → p (get_or patterns i d).now ≡ true → list_all p (texts (take (i + 1) patterns)) ≡ true
  all-more p front here = ap (list_all p) texts-more
      ∙ (list_all-append p (texts (take i patterns)) ((get_or patterns i d).now ∷ []) ∙ rw (front, here) refl)

  -- and a byte that is in none of the first texts, nor in the next
  pub none-more : (byte : ℕ) (test : Bool) → (not (is_among (get_or patterns i d).now byte)
      && (test && not (list_any (λ p. is_among p byte) (texts (take i patterns)))))
      ≡ (test && not (list_any (λ p. is_among p byte) (texts (take (i + 1) patterns))))
  none-more byte test =
      swap-not (list_any (λ p. is_among p byte) (texts (take i patterns)))
      (is_among (get_or patterns i d).now byte) test
      ∙ sym (ap (λ t. test && not t) (ap (list_any (λ p. is_among p byte)) texts-more
      ∙ list_any-append (λ p. is_among p byte) (texts (take i patterns)) ((get_or patterns i d).now ∷ [])))

  pub not-all : (p : List ℕ → Bool) → p (get_or patterns i d).now ≡ false → list_all p (texts patterns) ≡ false
  not-all p fails = list_all-map p (λ (q : Bor (List ℕ)). q.now) patterns
      ∙ list_all_at (λ q. p q.now) patterns i d inside fails

  pub alike-texts-more : (f g : List ℕ → Re)
      → AreAlike (map f (texts (take i patterns))) (map g (texts (take i patterns)))
      → SameCaptures (f (get_or patterns i d).now) (g (get_or patterns i d).now)
      → AreAlike (map f (texts (take (i + 1) patterns))) (map g (texts (take (i + 1) patterns)))
  alike-texts-more f g front here =
      subst (λ l. AreAlike (map f l) (map g l)) (sym texts-more)
      (subst (λ x. AreAlike x (map g (texts (take i patterns) ++ (get_or patterns i d).now ∷ [])))
      (sym (map-append f (texts (take i patterns)) ((get_or patterns i d).now ∷ [])))
      (subst (AreAlike (map f (texts (take i patterns)) ++ f (get_or patterns i d).now ∷ []))
      (sym (map-append g (texts (take i patterns)) ((get_or patterns i d).now ∷ [])))
      (alike-more _ _ _ _ front here)))
