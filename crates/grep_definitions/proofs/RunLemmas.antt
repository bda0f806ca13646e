-- Longest runs of numbers that pass a test, and lists joined over them.
use Rattle.std.proofs.Common.{◌≡◌, ℕ, zero, suc, ◌+◌, ◌-◌, ◌<◌, ◌≤◌, Bool, true, false, not, ◌&&◌}
use Rattle.std.proofs.Common.{List, [], ◌∷◌, ◌++◌, if◌then◌else◌, refl, sym, ap, ◌∙◌, arith, ◌⊎◌}
use Rattle.std.proofs.Common.{⊎_elim, Option, Some, None}
use Rattle.std.proofs.lemmas.Bool.{lt-ltb, ltb-true, le-leb, leb-true, cases_Bool, cases_lt}
use Rattle.std.proofs.lemmas.Bool.{and_parts, and_from, not-true}
use Rattle.std.specs.Prelude.{nat_lt, nat_le}
use Rattle.std.specs.Option.{unwrap_or}
use Rattle.std.specs.List.Sorted.{IsStrictlyIncreasing}
use Rattle.grep_definitions.specs.Plans.{first_below, joined_from}
use Rattle.grep_definitions.proofs.BelowLemmas.{some_below-false, first_below-of}
use Rattle.grep_definitions.proofs.BelowLemmas.{first_below-before, first_below-none}
use Rattle.grep_definitions.proofs.BelowLemmas.{joined_from-add}
use Rattle.grep_definitions.proofs.BoolLemmas.{clash}
use Rattle.grep_definitions.proofs.SearchLawLemmas.{AscendFrom, IsStrictlyIncreasing-cons}

-- whether a run of numbers that pass begins at number i
abbrev pub begins_run : (ℕ → Bool) → ℕ → Bool
begins_run p i = p i && not (nat_lt 0 i && p (i - 1))

-- a run of two tests together begins where a run of one of them does
pub begins_run-either : (p q r : ℕ → Bool) → ((i : ℕ) → r i ≡ true → (p i ≡ true) ⊎ (q i ≡ true))
    → ((i : ℕ) → p i ≡ true → r i ≡ true) → ((i : ℕ) → q i ≡ true → r i ≡ true) → (i : ℕ)
    → begins_run r i ≡ true → (begins_run p i ≡ true) ⊎ (begins_run q i ≡ true)
begins_run-either p q r either first second i is = grind arith

-- whether what f gives for a number and the next one is between two bounds
abbrev pub is_inside : (ℕ → ℕ) → ℕ → ℕ → ℕ → ℕ → Bool
is_inside f n low high i = nat_lt i n && (nat_le low (f i) && nat_le (f (i + 1)) high)

-- if f rises, these numbers are one run
pub is_inside-run : (f : ℕ → ℕ) (n low high : ℕ) → ((i j : ℕ) → i ≤ j → f i ≤ f j) → (i j : ℕ) → i
    < j
    → begins_run (is_inside f n low high) i ≡ true → begins_run (is_inside f n low high) j ≡ true
    → ⊥
is_inside-run f n low high rises i j less first second =
    let a = and_parts (nat_lt i n) _ (and_parts (is_inside f n low high i) _ first).0 in
    let b = and_parts (nat_lt j n) _ (and_parts (is_inside f n low high j) _ second).0 in
    let is_low : low ≤ f i = leb-true low (f i) (and_parts (nat_le low (f i)) _ a.1).0 in
    let is_high : f (j + 1) ≤ high = leb-true (f (j + 1)) high
    (and_parts (nat_le low (f j)) _ b.1).1 in
    let below : j < n = ltb-true j n b.0 in
    let back : (j - 1) + 1 ≡ j = omega arith in
    let starts = le-leb low (f (j - 1)) (omega (arith, rises i (j - 1) (omega arith))) in
    let ends : nat_le (f ((j - 1) + 1)) high ≡ true =
    le-leb (f ((j - 1) + 1)) high (rw back (omega (arith, rises j (j + 1) (omega arith)))) in
    let here : is_inside f n low high (j - 1) ≡ true =
    and_from (nat_lt (j - 1) n) _ (lt-ltb (j - 1) n (omega arith))
    (and_from (nat_le low (f (j - 1))) _ starts ends) in
    clash (and_from (nat_lt 0 j) _ (lt-ltb 0 j (omega arith)) here)
    (not-true _ (and_parts (is_inside f n low high j) _ second).1)

module _ (p : ℕ → Bool) (n : ℕ) where
  -- a run from number i on ends before number e: those from i on pass, and e doesn't, if it is
  -- below n
  pub record IsRunEnd (i e : ℕ) : Type 0 where
    pub low : i ≤ e
    pub high : e ≤ n
    pub inner : (j : ℕ) → i ≤ j → j < e → p j ≡ true
    pub closed : e < n → p e ≡ false

  -- the end of the run that begins at a number
  abbrev pub run_end : ℕ → ℕ
  run_end i = unwrap_or (first_below (λ j. nat_lt i j && not (p j)) n) n

  pub IsRunEnd-run_end : (i : ℕ) → i < n → p i ≡ true → IsRunEnd i (run_end i)
  IsRunEnd-run_end i inside here = go (first_below (λ j. nat_lt i j && not (p j)) n) refl
    where
      passes : (j : ℕ) → i ≤ j → (nat_lt i j && not (p j)) ≡ false → p j ≡ true
      passes j low none = ⊎_elim (λ yes. yes) (λ no. ⊎_elim
          (λ less. absurd (clash (and_from (nat_lt i j) (not (p j)) (lt-ltb i j less) (rw no refl))
          none)) (λ over. let same : i ≡ j = omega arith in ap p (sym same) ∙ here) (cases_lt i j))
          (cases_Bool (p j))

      go : (found : Option ℕ) → first_below (λ j. nat_lt i j && not (p j)) n ≡ found
          → IsRunEnd i (unwrap_or found n)
      go None is = record {
        low = omega arith;
        high = omega arith;
        inner = λ j low below. passes j low (some_below-false (λ j. nat_lt i j && not (p j)) n j
            (first_below-none (λ j. nat_lt i j && not (p j)) n is) below);
        closed = λ below. absurd (omega arith);
      }
      go (Some q) is =
          let found = first_below-of (λ j. nat_lt i j && not (p j)) n q is in
          let parts = and_parts (nat_lt i q) (not (p q)) found.1 in
          record {
            low = omega (arith, ltb-true i q parts.0);
            high = omega arith;
            inner = λ j low below. passes j low (first_below-before (λ j. nat_lt i j && not (p j)) n
                q j is below);
            closed = λ below. not-true (p q) parts.1;
          }

  -- no run from number i on ends at two numbers
  pub IsRunEnd-one : (i d e : ℕ) → IsRunEnd i d → IsRunEnd i e → d ≡ e
  IsRunEnd-one i d e one other = grind arith

  -- a run that begins earlier ends at the same number
  IsRunEnd-next : (i e : ℕ) → i < n → p i ≡ true → IsRunEnd i e → IsRunEnd (i + 1) e
  IsRunEnd-next i e inside here run = grind arith

  -- whether a number goes on with the run of the one before it
  abbrev pub continues : ℕ → Bool
  continues i = nat_lt 0 i && p (i - 1)

  continues-next : (i : ℕ) → continues (i + 1) ≡ p i
  continues-next i = grind arith

  -- what is joined over all numbers, if each run is in the list of its first number
  module _ {X : Type 0} (whole each : ℕ → List X) (skipped : (i : ℕ) → p i ≡ false → whole i ≡ [])
      (none : (i : ℕ) → p i ≡ false → each i ≡ []) (later : (i : ℕ) → p i ≡ true → continues i
      ≡ true → whole i ≡ []) (first : (i : ℕ) → i < n → p i ≡ true → continues i ≡ false → whole i
      ≡ joined_from each i (run_end i - i)) where
    joined-from : (m i : ℕ) → i + m ≡ n
        → (continues i ≡ false → joined_from whole i m ≡ joined_from each i m)
        × ((e : ℕ) → IsRunEnd i e → continues i ≡ true → joined_from whole i m
        ≡ joined_from each e (n - e))
    joined-from zero i all =
        (λ _. refl, λ e run _. let nothing : n - e ≡ zero = omega arith in rw nothing refl)
    joined-from (suc m) i all =
        let rest = joined-from m (i + 1) (omega arith) in
        ⊎_elim
        (λ yes. (
          λ begins.
              let run = IsRunEnd-run_end i (omega arith) yes in
              let next = IsRunEnd-next i (run_end i) (omega arith) yes run in
              let cut : suc m ≡ (run_end i - i) + (n - run_end i) = omega arith in
              let on : i + (run_end i - i) ≡ run_end i = omega arith in
              let split : joined_from each i (suc m) ≡ joined_from each i (run_end i - i)
              ++ joined_from each (run_end i) (n - run_end i) =
              ap (joined_from each i) cut ∙ joined_from-add each i (run_end i - i) (n - run_end i)
              ∙ ap (λ x. joined_from each i (run_end i - i) ++ joined_from each x (n - run_end i))
              on in
              rw (
                first i (omega arith) yes begins,
                rest.1 (run_end i) next (continues-next i ∙ yes),
              ) (sym split),
          λ e run goes_on. rw (later i yes goes_on)
              (rest.1 e (IsRunEnd-next i e (omega arith) yes run) (continues-next i ∙ yes)),
        )) (λ no.
        let same : joined_from whole i (suc m) ≡ joined_from each i (suc m) =
        rw (skipped i no, none i no) (rest.0 (continues-next i ∙ no)) in (
          λ _. same,
          λ e run _.
              let here : e ≡ i = ⊎_elim
              (λ less. absurd (clash (run.inner i (omega arith) less) no)) (λ over. omega arith)
              (cases_lt i e) in
              let count : suc m ≡ n - i = omega arith in
              same ∙ (rw (here, ← count) refl),
        )) (cases_Bool (p i))

    pub joined-runs : joined_from whole 0 n ≡ joined_from each 0 n
    joined-runs = (joined-from n 0 (omega arith)).0 refl

  -- if what f gives rises with the number, so does what it gives for the first number of each run
  -- and for its end
  module _ (f : ℕ → ℕ) (rises : (i : ℕ) → i < n → f i < f (i + 1)) (higher : (i j : ℕ) → i ≤ j → f i
      ≤ f j) where
    abbrev pub edges : ℕ → List ℕ
    edges i = if p i && not (continues i) then f i ∷ f (run_end i) ∷ [] else []

    edges-ascend : (m i : ℕ) → i + m ≡ n
        → (continues i ≡ false → AscendFrom (f i) (joined_from edges i m))
        × ((e : ℕ) → IsRunEnd i e → continues i ≡ true
        → AscendFrom (suc (f e)) (joined_from edges i m))
    edges-ascend zero i all = (
      λ _. (λ j below. absurd (omega arith), λ some. absurd (omega arith)),
      λ e run _. (λ j below. absurd (omega arith), λ some. absurd (omega arith)),
    )
    edges-ascend (suc m) i all =
        let rest = edges-ascend m (i + 1) (omega arith) in
        let up : f i < f (i + 1) = rises i (omega arith) in
        ⊎_elim
        (λ here. (
          λ begins.
              let run = IsRunEnd-run_end i (omega arith) here in
              let next = IsRunEnd-next i (run_end i) (omega arith) here run in
              let later = rest.1 (run_end i) next (continues-next i ∙ here) in
              let wide : f i < f (run_end i) = omega (arith, higher (i + 1) (run_end i) next.low) in
              rw (here, begins) (
                IsStrictlyIncreasing-cons (f i) (f (run_end i) ∷ joined_from edges (i + 1) m)
                    (IsStrictlyIncreasing-cons (f (run_end i)) (joined_from edges (i + 1) m) later.0
                    (λ some. let low = later.1 some in omega arith)) (λ some. wide),
                λ some. omega arith,
              ),
          λ e run goes_on. rw (here, goes_on) (rest.1 e (IsRunEnd-next i e (omega arith) here run)
              (continues-next i ∙ here)),
        )) (λ none.
        let later = rest.0 (continues-next i ∙ none) in (
          λ _. rw none (later.0, λ some. let low = later.1 some in omega arith),
          λ e run _.
              let same : e ≡ i = ⊎_elim
              (λ less. absurd (clash (run.inner i (omega arith) less) none)) (λ over. omega arith)
              (cases_lt i e) in
              rw (none, same) (later.0, λ some. let low = later.1 some in omega arith),
        )) (cases_Bool (p i))

    pub edges-rise : IsStrictlyIncreasing (joined_from edges 0 n)
    edges-rise = ((edges-ascend n 0 (omega arith)).0 refl).0
