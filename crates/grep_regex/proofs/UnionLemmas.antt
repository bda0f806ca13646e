-- Alternatives that are runs of sets which differ at one position at most.
use Rattle.std.proofs.Common.{◌≡◌, ◌≢◌, ◌⊎◌, inl, inr, ℕ, zero, suc, ◌+◌, ◌<◌, Bool, true, false, ◌||◌, List, []}
use Rattle.std.proofs.Common.{◌∷◌, ◌++◌, length, get_or, set, Option, None, Some, slice_get, refl, sym, ap, ◌∙◌}
use Rattle.std.proofs.Common.{subst, ⊎_elim, arith, ap₂}
use Rattle.std.proofs.lemmas.Bool.{cases_Bool, cases_lt, false≢true}
use Rattle.std.proofs.Math.ListN.{length-set}
use Rattle.regex_class.specs.Ranges.{in_ranges}
use Rattle.regex_hir.specs.Matches.{Matches}
use Rattle.regex_hir.specs.Meaning.{alt_all}
use Rattle.regex_hir.specs.Re.{Re, alt, byte_in}
use Rattle.grep_matcher.specs.ByteSets.{holds}
use Rattle.grep_regex.specs.Classes.{decision, decision_by, IsRun}
use Rattle.grep_regex.specs.Unions.{AreSame, IsUnion}
use Rattle.grep_regex.proofs.DecisionLemmas.{decision-member, decision-other, decision-high}
use Rattle.grep_regex.proofs.RunLemmas.{alike-run}

-- what sets decide by what each of two alternatives decides
abbrev either : Option Bool → Option Bool → Option Bool
either None b = None
either (Some a) None = None
either (Some a) (Some b) = Some (a || b)

either-same : (d : Option Bool) → d ≡ either d d
either-same None = refl
either-same (Some true) = refl
either-same (Some false) = refl

either-none : (d : Option Bool) → d ≡ either d (Some false)
either-none None = refl
either-none (Some true) = refl
either-none (Some false) = refl

none-either : (d : Option Bool) → d ≡ either (Some false) d
none-either None = refl
none-either (Some true) = refl
none-either (Some false) = refl

-- sets with the same members
same-first : (a b : List Bool) → AreSame a b → (after first second : Option Bool) → after ≡ either first second
    → (next : Option ℕ) → decision_by a after next ≡ either (decision_by a first next) (decision_by b second next)
same-first a b same after first second is None = refl
same-first a b same after first second is (Some x) = ⊎_elim
    (λ (low : x < 128). ⊎_elim
    (λ has. decision-member a after x low has ∙ (is ∙ sym (ap₂ either (decision-member a first x low has)
    (decision-member b second x low (sym (same x low) ∙ has)))))
    (λ lacks. decision-other a after x low lacks ∙ sym (ap₂ either (decision-other a first x low lacks)
    (decision-other b second x low (sym (same x low) ∙ lacks))))
    (cases_Bool (holds a x)))
    (λ high. decision-high a after x high
    ∙ sym (ap₂ either (decision-high a first x high) (decision-high b second x high)))
    (cases_lt x 128)

-- a set with the members of two
first-union : (a b c : List Bool) → ((x : ℕ) → x < 128 → holds c x ≡ (holds a x || holds b x))
    → (after : Option Bool) (next : Option ℕ)
    → decision_by c after next ≡ either (decision_by a after next) (decision_by b after next)
first-union a b c both after None = refl
first-union a b c both after (Some x) = ⊎_elim
    (λ (low : x < 128). ⊎_elim
    (λ first. ⊎_elim
    (λ second. decision-member c after x low (both x low ∙ ap₂ ◌||◌ first second)
    ∙ (either-same after
    ∙ sym (ap₂ either (decision-member a after x low first) (decision-member b after x low second))))
    (λ second. decision-member c after x low (both x low ∙ ap₂ ◌||◌ first second)
    ∙ (either-none after
    ∙ sym (ap₂ either (decision-member a after x low first) (decision-other b after x low second))))
    (cases_Bool (holds b x)))
    (λ first. ⊎_elim
    (λ second. decision-member c after x low (both x low ∙ ap₂ ◌||◌ first second)
    ∙ (none-either after
    ∙ sym (ap₂ either (decision-other a after x low first) (decision-member b after x low second))))
    (λ second. decision-other c after x low (both x low ∙ ap₂ ◌||◌ first second)
    ∙ sym (ap₂ either (decision-other a after x low first) (decision-other b after x low second)))
    (cases_Bool (holds b x)))
    (cases_Bool (holds a x)))
    (λ high. decision-high c after x high
    ∙ sym (ap₂ either (decision-high a after x high) (decision-high b after x high)))
    (cases_lt x 128)

-- the same members at each position
same-decision : (s t : List (List Bool)) → length t ≡ length s
    → ((q : ℕ) → q < length s → AreSame (get_or s q []) (get_or t q []))
    → (hay : List ℕ) (i : ℕ) → decision s hay i ≡ decision t hay i
same-decision [] [] long same hay i = refl
same-decision [] (b ∷ t) long same hay i = absurd (omega (arith, long))
same-decision (a ∷ s) [] long same hay i = absurd (omega (arith, long))
same-decision (a ∷ s) (b ∷ t) long same hay i =
    let later = same-decision s t (omega (arith, long)) (λ q below. same (suc q) (omega (arith, below))) hay (i + 1) in
    alike a b (same 0 (omega arith)) _ (slice_get hay i)
    ∙ ap (λ after. decision_by b after (slice_get hay i)) later
  where
    alike : (a b : List Bool) → AreSame a b → (after : Option Bool) (next : Option ℕ)
        → decision_by a after next ≡ decision_by b after next
    alike a b same after None = refl
    alike a b same after (Some x) = ⊎_elim
        (λ (low : x < 128). ⊎_elim
        (λ has. decision-member a after x low has ∙ sym (decision-member b after x low (sym (same x low) ∙ has)))
        (λ lacks. decision-other a after x low lacks ∙ sym (decision-other b after x low (sym (same x low) ∙ lacks)))
        (cases_Bool (holds a x)))
        (λ high. decision-high a after x high ∙ sym (decision-high b after x high))
        (cases_lt x 128)

union-decision : (s t : List (List Bool)) (p : ℕ) (one : List Bool) → length t ≡ length s → p < length s
    → ((q : ℕ) → q < length s → q ≢ p → AreSame (get_or s q []) (get_or t q []))
    → ((x : ℕ) → x < 128 → holds one x ≡ (holds (get_or s p []) x || holds (get_or t p []) x))
    → (hay : List ℕ) (i : ℕ) → decision (set s p one) hay i ≡ either (decision s hay i) (decision t hay i)
union-decision [] t p one long inside same both hay i = absurd (omega (arith, inside))
union-decision (a ∷ s) [] p one long inside same both hay i = absurd (omega (arith, long))
union-decision (a ∷ s) (b ∷ t) zero one long inside same both hay i =
    let later = same-decision s t (omega (arith, long))
    (λ q below. same (suc q) (omega (arith, below)) (λ e. omega (arith, e))) hay (i + 1) in
    first-union a b one both (decision s hay (i + 1)) (slice_get hay i)
    ∙ ap (λ after. either (decision_by a (decision s hay (i + 1)) (slice_get hay i))
    (decision_by b after (slice_get hay i)))
    later
union-decision (a ∷ s) (b ∷ t) (suc p) one long inside same both hay i =
    same-first a b (same 0 (omega arith) (λ e. omega (arith, e))) _ _ _
    (union-decision s t p one (omega (arith, long)) (omega (arith, inside))
    (λ q below other. same (suc q) (omega (arith, below)) (λ e. other (omega (arith, e)))) both hay (i + 1))
    (slice_get hay i)

-- what each decides where both together decide for a match, or against one
either-true : (a b : Option Bool) → either a b ≡ Some true
    → ((a ≡ Some true) × ((b ≡ Some true) ⊎ (b ≡ Some false))) ⊎ ((a ≡ Some false) × (b ≡ Some true))
either-true None b e = absurd (grind (arith, e))
either-true (Some a) None e = absurd (grind (arith, e))
either-true (Some true) (Some true) e = inl (refl, inl refl)
either-true (Some true) (Some false) e = inl (refl, inr refl)
either-true (Some false) (Some true) e = inr (refl, refl)
either-true (Some false) (Some false) e = absurd (grind (arith, e))

either-false : (a b : Option Bool) → either a b ≡ Some false → (a ≡ Some false) × (b ≡ Some false)
either-false None b e = absurd (grind (arith, e))
either-false (Some a) None e = absurd (grind (arith, e))
either-false (Some true) (Some true) e = absurd (grind (arith, e))
either-false (Some true) (Some false) e = absurd (grind (arith, e))
either-false (Some false) (Some true) e = absurd (grind (arith, e))
either-false (Some false) (Some false) e = (refl, refl)

pub union-run : (a b : Re) (s t u : List (List Bool)) → IsRun a s → IsRun b t → IsUnion s t u → IsRun (alt a b) u
union-run a b s t u p q union = subst (IsRun (alt a b)) (sym union.is) (record {
  yes = λ hay i decided. ⊎_elim
      (λ first. inl (subst (Matches hay a i) (far i) (p.yes hay i first.0)))
      (λ second. inr (subst (Matches hay b i) (ap (λ n. i + n) union.differ.long ∙ far i) (q.yes hay i second.1)))
      (either-true _ _ (sym (whole hay i) ∙ decided));
  only = λ hay i j decided m. ⊎_elim
      (λ first. ⊎_elim
      (λ ma. p.only hay i j first.0 ma ∙ far i)
      (λ mb. ⊎_elim
      (λ yes. q.only hay i j yes mb ∙ (ap (λ n. i + n) union.differ.long ∙ far i))
      (λ no. absurd (q.no hay i j no mb)) first.1) m)
      (λ second. ⊎_elim
      (λ ma. absurd (p.no hay i j second.0 ma))
      (λ mb. q.only hay i j second.1 mb ∙ (ap (λ n. i + n) union.differ.long ∙ far i)) m)
      (either-true _ _ (sym (whole hay i) ∙ decided));
  no = λ hay i j decided m.
      let none = either-false _ _ (sym (whole hay i) ∙ decided) in
      ⊎_elim (λ ma. p.no hay i j none.0 ma) (λ mb. q.no hay i j none.1 mb) m;
})
  where
    whole : (hay : List ℕ) (i : ℕ)
        → decision (set s union.at union.one) hay i ≡ either (decision s hay i) (decision t hay i)
    whole hay i = union-decision s t union.at union.one union.differ.long union.differ.inside union.differ.same
        union.both hay i

    far : (i : ℕ) → i + length s ≡ i + length (set s union.at union.one)
    far i = ap (λ n. i + n) (sym (length-set s union.at union.one))

-- what never matches is no alternative
pub one-run : (a : Re) (s : List (List Bool)) → IsRun a s → IsRun (alt_all (a ∷ [])) s
unfolding in_ranges
one-run a s p = alike-run a (alt a (byte_in [])) s (λ hay i j m. inl m)
    (λ hay i j m. ⊎_elim (λ ma. ma) (λ none. absurd (false≢true none.2)) m) p

pub alt-last : (parts : List Re) (a : Re) (hay : List ℕ) (i j : ℕ) → Matches hay (alt (alt_all parts) a) i j
    → Matches hay (alt_all (parts ++ a ∷ [])) i j
alt-last [] a hay i j m = ⊎_elim (λ none. inr none) (λ ma. inl ma) m
alt-last (first ∷ parts) a hay i j m = ⊎_elim
    (λ front. ⊎_elim (λ one. inl one) (λ more. inr (alt-last parts a hay i j (inl more))) front)
    (λ ma. inr (alt-last parts a hay i j (inr ma))) m

pub last-alt : (parts : List Re) (a : Re) (hay : List ℕ) (i j : ℕ) → Matches hay (alt_all (parts ++ a ∷ [])) i j
    → Matches hay (alt (alt_all parts) a) i j
last-alt [] a hay i j m = ⊎_elim (λ ma. inr ma) (λ none. inl none) m
last-alt (first ∷ parts) a hay i j m = ⊎_elim
    (λ one. inl (inl one))
    (λ more. ⊎_elim (λ front. inl (inr front)) (λ ma. inr ma) (last-alt parts a hay i j more)) m

-- one more alternative
pub more-run : (parts : List Re) (a : Re) (s t u : List (List Bool)) → IsRun (alt_all parts) s → IsRun a t
    → IsUnion s t u → IsRun (alt_all (parts ++ a ∷ [])) u
more-run parts a s t u p q union =
    alike-run (alt (alt_all parts) a) (alt_all (parts ++ a ∷ [])) u (alt-last parts a) (last-alt parts a)
    (union-run (alt_all parts) a s t u p q union)
