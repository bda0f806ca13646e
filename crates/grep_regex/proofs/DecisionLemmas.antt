-- What sets decide of positions.
use Rattle.std.proofs.Common.{◌≡◌, ℕ, suc, ◌+◌, ◌-◌, ◌<◌, ◌≤◌, Bool, true, false, List, [], ◌∷◌, length, get_or, drop}
use Rattle.std.proofs.Common.{take, All}
use Rattle.std.proofs.Common.{Option, Some, None, sym, ap, ◌∙◌, subst, ⊎_elim, arith, drop-cons}
use Rattle.std.proofs.lemmas.Bool.{cases_Bool, cases_lt}
use Rattle.std.proofs.lemmas.List.{get_or_default, get_or-take, length-take-le}
use Rattle.std.proofs.lemmas.Option.{slice_get-get_or, slice_get_past}
use Rattle.grep_matcher.specs.ByteSets.{holds}
use Rattle.grep_regex.specs.Classes.{decision_by, decision}
use Rattle.grep_regex.specs.Decisions.{IsPassed}

-- a byte that is in the set, and one that isn't
pub decision-member : (set : List Bool) (after : Option Bool) (b : ℕ) → b < 128 → holds set b ≡ true
    → decision_by set after (Some b) ≡ after
decision-member set after b low has = grind (arith, low, has)

pub decision-other : (set : List Bool) (after : Option Bool) (b : ℕ) → b < 128 → holds set b ≡ false
    → decision_by set after (Some b) ≡ Some false
decision-other set after b low has = grind (arith, low, has)

pub decision-high : (set : List Bool) (after : Option Bool) (b : ℕ) → 128 ≤ b → decision_by set after (Some b) ≡ None
decision-high set after b high = grind (arith, high)

-- of a byte that follows, the decision is that of the bytes after it
pub decision-later : (set : List Bool) (after : Option Bool) (next : Option ℕ) → decision_by set after next ≡ Some true
    → after ≡ Some true
decision-later set after None has = absurd (grind (arith, has))
decision-later set after (Some b) has = ⊎_elim
    (λ (low : b < 128). ⊎_elim
    (λ member. sym (decision-member set after b low member) ∙ has)
    (λ other. absurd (grind (arith, sym (decision-other set after b low other) ∙ has)))
    (cases_Bool (holds set b)))
    (λ high. absurd (grind (arith, sym (decision-high set after b high) ∙ has)))
    (cases_lt b 128)

-- the bytes from a position up to another are ASCII
abbrev pub AreLow : List ℕ → ℕ → ℕ → Type 0
AreLow hay from to = (q : ℕ) → from ≤ q → q < to → get_or hay q 0 < 128

-- what follows the first set
pub decision-cons : (set : List Bool) (sets : List (List Bool)) (hay : List ℕ) (i : ℕ) → i < length hay
    → decision (set ∷ sets) hay i ≡ decision_by set (decision sets hay (i + 1)) (Some (get_or hay i 0))
decision-cons set sets hay i inside = ap (decision_by set (decision sets hay (i + 1))) (slice_get-get_or hay i 0 inside)

pub decision-past : (set : List Bool) (sets : List (List Bool)) (hay : List ℕ) (i : ℕ) → length hay ≤ i
    → decision (set ∷ sets) hay i ≡ Some false
decision-past set sets hay i past = ap (decision_by set (decision sets hay (i + 1))) (slice_get_past hay i past)

-- a first byte that is ASCII, by whether it is in the first set
by-first : (set : List Bool) (sets : List (List Bool)) (hay : List ℕ) (i : ℕ) → i < length hay
    → get_or hay i 0 < 128 → (holds set (get_or hay i 0) ≡ true → decision sets hay (i + 1) ≡ Some false)
    → decision (set ∷ sets) hay i ≡ Some false
by-first set sets hay i inside low later = decision-cons set sets hay i inside ∙ ⊎_elim
    (λ has. decision-member set _ (get_or hay i 0) low has ∙ later has)
    (λ has. decision-other set _ (get_or hay i 0) low has)
    (cases_Bool (holds set (get_or hay i 0)))

-- too few bytes follow
pub too-short : (sets : List (List Bool)) (hay : List ℕ) (i : ℕ) → i ≤ length hay → length hay < i + length sets
    → AreLow hay i (length hay) → decision sets hay i ≡ Some false
too-short [] hay i fits short low = absurd (omega (arith, fits, short))
too-short (set ∷ sets) hay i fits short low = ⊎_elim
    (λ (inside : i < length hay). by-first set sets hay i inside (low i (omega arith) inside)
    (λ has. too-short sets hay (i + 1) (omega arith) (omega (arith, short)) (λ q from to. low q (omega arith) to)))
    (λ (past : length hay ≤ i). decision-past set sets hay i past)
    (cases_lt i (length hay))

-- the byte at a position is in none of the sets that could have it
pub barred : (sets : List (List Bool)) (hay : List ℕ) (i q : ℕ) → i ≤ q → q < i + length sets → q < length hay
    → AreLow hay i (q + 1)
    → ((m : ℕ) → m ≤ q - i → holds (get_or sets m []) (get_or hay q 0) ≡ false) → decision sets hay i ≡ Some false
barred [] hay i q ordered near inside low lacks = absurd (omega (arith, near, ordered))
barred (set ∷ sets) hay i q ordered near inside low lacks = ⊎_elim
    (λ (before : i < q). by-first set sets hay i (omega arith) (low i (omega arith) (omega arith))
    (λ has. barred sets hay (i + 1) q (omega arith) (omega (arith, near)) inside (λ p from to. low p (omega arith) to)
    (λ m below. lacks (suc m) (omega arith))))
    (λ (at : q ≤ i).
    let same : q ≡ i = omega arith in
    decision-cons set sets hay i (omega arith)
    ∙ decision-other set _ (get_or hay i 0) (low i (omega arith) (omega arith))
    (subst (λ x. holds set (get_or hay x 0) ≡ false) same (lacks 0 (omega arith))))
    (cases_lt i q)

-- one more byte that is in its set
pub decision-more : (sets : List (List Bool)) (hay : List ℕ) (at k : ℕ) → k < length sets → at + k < length hay
    → get_or hay (at + k) 0 < 128 → holds (get_or sets k []) (get_or hay (at + k) 0) ≡ true
    → decision (drop k sets) hay (at + k) ≡ decision (drop (k + 1) sets) hay (at + (k + 1))
decision-more sets hay at k within inside low has =
    let one : k + 1 ≡ suc k = omega arith in
    let next : at + k + 1 ≡ at + (k + 1) = omega arith in
    ap (λ xs. decision xs hay (at + k)) (drop-cons sets k [] within)
    ∙ (decision-cons (get_or sets k []) (drop (suc k) sets) hay (at + k) inside
    ∙ (decision-member (get_or sets k []) _ (get_or hay (at + k) 0) low has
    ∙ (ap (λ n. decision (drop n sets) hay (at + k + 1)) (sym one) ∙ ap (decision (drop (k + 1) sets) hay) next)))

module _ (sets : List (List Bool)) (hay : List ℕ) (at k : ℕ) (set : List Bool) (within : k < length sets)
    (is : set ≡ get_or sets k set) (inside : at + k < length hay) (ascii : get_or hay (at + k) 0 < 128) where
  is-kth : set ≡ get_or sets k []
  is-kth = is ∙ get_or_default sets k set [] within

  -- a byte that is in its set
  pub decision-next : holds set (get_or hay (at + k) 0) ≡ true
      → decision sets hay at ≡ decision (drop k sets) hay (at + k)
      → decision sets hay at ≡ decision (drop (k + 1) sets) hay (at + (k + 1))
  decision-next has same = same ∙ decision-more sets hay at k within inside ascii
      (subst (λ s. holds s (get_or hay (at + k) 0) ≡ true) is-kth has)

  module _ (low : AreLow hay at (at + k)) where
    pub low-next : AreLow hay at (at + (k + 1))
    low-next q from to = ⊎_elim
        (λ (before : q < at + k). low q from before)
        (λ (last : at + k ≤ q). let same : at + k ≡ q = omega arith in subst (λ x. get_or hay x 0 < 128) same ascii)
        (cases_lt q (at + k))

    module _ (lacks : holds set (get_or hay (at + k) 0) ≡ false) where
      kth-lacks : holds (get_or sets k []) (get_or hay (at + k) 0) ≡ false
      kth-lacks = subst (λ s. holds s (get_or hay (at + k) 0) ≡ false) is-kth lacks

      -- a byte that isn't in its set: the position is passed
      pub passes-one : decision sets hay at ≡ decision (drop k sets) hay (at + k)
          → IsPassed (decision sets hay) at (at + 1)
      passes-one same i from to =
          let here : at ≡ i = omega arith in
          subst (λ x. decision sets hay x ≡ Some false) here
          (same ∙ (ap (λ xs. decision xs hay (at + k)) (drop-cons sets k [] within)
          ∙ (decision-cons (get_or sets k []) (drop (suc k) sets) hay (at + k) inside
          ∙ decision-other (get_or sets k []) _ (get_or hay (at + k) 0) ascii kth-lacks)))

      -- nor in one of those before: so are all up to the byte
      pub passes-all : All (λ s. holds s (get_or hay (at + k) 0) ≡ false) (take k sets)
          → IsPassed (decision sets hay) at (at + k + 1)
      passes-all none i from to =
          barred sets hay i (at + k) (omega arith) (omega (arith, within)) inside
          (λ q f t. low-next q (omega arith) (omega arith))
          (λ m below. ⊎_elim
          (λ (before : m < k). none-at m before)
          (λ (last : k ≤ m). let same : k ≡ m = omega arith in
          subst (λ x. holds (get_or sets x []) (get_or hay (at + k) 0) ≡ false) same kth-lacks)
          (cases_lt m k))
        where
          none-at : (m : ℕ) → m < k → holds (get_or sets m []) (get_or hay (at + k) 0) ≡ false
          none-at m before = subst (λ s. holds s (get_or hay (at + k) 0) ≡ false) (get_or-take k sets m [] before)
              (none m [] (omega (arith, length-take-le k sets (omega (arith, within)))))

-- no byte of the rest is beyond ASCII, and there are too few
pub passes-rest : (sets : List (List Bool)) (hay : List ℕ) (at k : ℕ) → k < length sets → at + k ≤ length hay
    → length hay ≤ at + k → AreLow hay at (at + k) → IsPassed (decision sets hay) at (length hay + 1)
passes-rest sets hay at k within fits past low i from to =
    too-short sets hay i (omega arith) (omega (arith, within)) (λ q f t. low q (omega arith) (omega (arith, past)))
