-- How lines near selected lines are reported, by line and across lines alike.
use Rattle.std.proofs.Common.{◌≡◌, ℕ, zero, suc, ◌+◌, ◌-◌, ◌<◌, ◌≤◌, Bool, true, false, not, ◌&&◌}
use Rattle.std.proofs.Common.{◌||◌, List, [], ◌++◌, refl, sym, ◌∙◌, ap, subst, arith, ⊎_elim, Some}
use Rattle.std.proofs.Common.{None, if◌then◌else◌}
use Rattle.std.proofs.Math.Bool.{and-false, and-true}
use Rattle.std.proofs.lemmas.Bool.{lt-ltb, lt-leb, le-leb, le-ltb, eq-eqb, cases_lt, cases_Bool}
use Rattle.std.proofs.lemmas.Bool.{ne_eqb, ltb-true, ltb-false}
use Rattle.std.proofs.lemmas.List.{append-nil}
use Rattle.std.specs.Prelude.{nat_lt, nat_le}
use Rattle.grep_report.specs.declared.sink_context.SinkContextKind.TheVariants.{Before, After}
use Rattle.grep_report.specs.declared.sink_context.SinkContextKind.TheVariants.{Other}
use Rattle.grep_definitions.specs.Plans.{Settings, some_below, first_below, matched, in_context}
use Rattle.grep_definitions.specs.Plans.{Selection, line_count, follows_selected, precedes_selected}
use Rattle.grep_definitions.specs.Plans.{kind}
use Rattle.grep_definitions.specs.LineCalls.{breaks_near}
use Rattle.grep_definitions.specs.LineWalks.{IsNear}
use Rattle.grep_definitions.specs.Plans
use Rattle.grep_definitions.proofs.BelowLemmas.{some_below-none, some_below-some, first_below-here}
use Rattle.grep_definitions.proofs.BelowLemmas.{headed, headed-one}

module _ (k : Settings) (bytes : List ℕ) (selection : Selection) where
  -- before the first line
  pub IsNear-none : IsNear k bytes selection 0 0 0
  IsNear-none = grind arith

  -- after a selected line
  pub IsNear-hit : (i : ℕ) → i < selection.end → selection.selected i ≡ true
      → IsNear k bytes selection (i + 1) (i + 1) k.after_context
  IsNear-hit i has hit =
      grind (arith, some_below-some, le-leb, lt-ltb, some_below-none, lt-leb, le-ltb, cases_lt)

-- what a walk at line i knows of the lines before it
module _ {k : Settings} {bytes : List ℕ} {selection : Selection} {v i left : ℕ}
    (near : IsNear k bytes selection v i left) where
  abbrev selected : ℕ → Bool
  selected = selection.selected

  -- how many lines there are, and how many of them may be reported
  abbrev n : ℕ
  n = line_count k bytes

  abbrev reportable : ℕ
  reportable = selection.end

  abbrev A : ℕ
  A = k.after_context

  abbrev B : ℕ
  B = k.before_context

  abbrev Near : ℕ → ℕ → ℕ → Type 0
  Near = IsNear k bytes selection

  abbrev follows : ℕ → Bool
  follows = follows_selected k bytes selection

  abbrev precedes : ℕ → Bool
  precedes = precedes_selected k bytes selection

  abbrev is_reported : ℕ → Bool
  is_reported = Plans.is_reported k bytes selection

  -- a line that was passed unreported is never reported under passthru
  never_bare : (j : ℕ) → v ≤ j → j < i → k.passthru ≡ false
  never_bare j low less = ⊎_elim (λ yes. absurd (omega (arith, near.bare yes))) (λ no. no)
      (cases_Bool k.passthru)

  -- if no line from the i-th on is selected, the lines that were passed aren't reported
  pub kind-done : ((q : ℕ) → i ≤ q → q < n → selected q ≡ false) → (j : ℕ) → v ≤ j → j < i
      → kind k bytes selection j ≡ None
  kind-done silent j low high =
      grind (arith, some_below-none, never_bare, ltb-true, cases_lt, and-false)

  -- line i follows a selected line just if some of the window is left
  pub follows-here : follows i ≡ nat_lt 0 left
  follows-here = let zero_off : i - i ≡ 0 = omega arith in near.window i (omega arith)
      ∙ ap (λ d. nat_lt d left) zero_off

  -- a line that is not selected and follows none stays unreported so far
  pub IsNear-pass : selected i ≡ false → left ≡ 0 → k.passthru ≡ false → Near v (i + 1) 0
  IsNear-pass misses empty shut = grind arith

  -- a line after a selected one
  pub kind-after : selected i ≡ false → 0 < left
      → kind k bytes selection i ≡ Some (if selection.trailing i then matched else in_context After)
  kind-after misses some = let follows_it = follows-here
      ∙ lt-ltb 0 left some in rw (misses, follows_it) refl

  -- no break comes before it, since the line before it is reported
  pub gap-after : 0 < left
      → (nat_lt 0 (A + B) && true && not (is_reported (i - 1)) && some_below is_reported i)
      ≡ (nat_lt 0 A && breaks_near k v i i)
  gap-after some = grind arith

  precedes-bare : k.before_context ≡ 0 → precedes i ≡ false
  precedes-bare none = grind (arith, some_below-none, ltb-true, lt-leb)

  -- a line that is reported under passthru alone
  pub kind-other : selected i ≡ false → left ≡ 0 → k.passthru ≡ true → k.before_context ≡ 0
      → kind k bytes selection i ≡ Some (in_context Other)
  kind-other misses empty bare none = grind (arith, follows-here, le-ltb, precedes-bare)

  -- after any line that isn't selected
  pub IsNear-missed : (k.passthru ≡ true → k.before_context ≡ 0) → i < reportable → selected i
      ≡ false → Near (if nat_lt 0 left || k.passthru then i + 1 else v) (i + 1) (left - 1)
  IsNear-missed bare has misses = go (nat_lt 0 left) k.passthru refl refl
    where
      go : (b p : Bool) → nat_lt 0 left ≡ b → k.passthru ≡ p
          → Near (if b || p then i + 1 else v) (i + 1) (left - 1)
      go true p is_b is_p = grind (arith, follows-here)
      go false true is_b is_p = grind (arith, follows-here)
      go false false is_b is_p = grind (arith, follows-here)

  -- what is joined over the lines grows by that line's part, if it is reported
  pub headed-missed : {X : Type 0} (first : X) (f : ℕ → List X) (after other : List X)
      → (0 < left → f i ≡ after) → (left ≡ 0 → k.passthru ≡ true → f i ≡ other)
      → headed first f (if nat_lt 0 left || k.passthru then i + 1 else v)
      ≡ headed first f v ++ (if nat_lt 0 left then after else (if k.passthru then other else []))
  headed-missed first f after other is_after is_other = go (nat_lt 0 left) k.passthru refl refl
    where
      go : (b p : Bool) → nat_lt 0 left ≡ b → k.passthru ≡ p
          → headed first f (if b || p then i + 1 else v) ≡ headed first f v
          ++ (if b then after else (if p then other else []))
      go true p is_b is_p =
          let some = ltb-true 0 left is_b in
          headed-one first f v i (near.close some) ∙ ap (λ xs. headed first f v ++ xs)
          (is_after some)
      go false true is_b is_p =
          let none : left ≡ 0 = let le = ltb-false 0 left is_b in omega arith in
          headed-one first f v i (near.bare is_p) ∙ ap (λ xs. headed first f v ++ xs)
          (is_other none is_p)
      go false false is_b is_p = sym (append-nil (headed first f v))

  -- if line i is selected
  module _ (inside : i < n) (has : i < reportable) (hit : selected i ≡ true) where
    reported-here : is_reported i ≡ true
    reported-here = let test = lt-ltb i reportable has in rw (hit, test) refl

    -- a passed line is before the match if it is near
    precedes-passed : (j : ℕ) → v ≤ j → j < i → precedes j ≡ nat_le (i - j) B
    precedes-passed j low less = ⊎_elim is_far is_close (cases_lt B (i - j))
      where
        is_close : i - j ≤ B → precedes j ≡ nat_le (i - j) B
        is_close close = some_below-some _ n i inside
            (let a = lt-ltb j i less in let b = le-leb (i - j) B close in rw (a, b, hit) refl)
            ∙ sym (le-leb (i - j) B close)

        is_far : B < i - j → precedes j ≡ nat_le (i - j) B
        is_far far = grind (arith, some_below-none, lt-leb, and-false, le-ltb, cases_lt)

    pub kind-passed : (j : ℕ) → v ≤ j → j < i → kind k bytes selection j
        ≡ (if nat_le (i - j) B then Some (in_context Before) else None)
    kind-passed j low less = grind (arith, precedes-passed, never_bare)

    reported-passed : (j : ℕ) → v ≤ j → j < i → is_reported j ≡ nat_le (i - j) B
    reported-passed j low less = grind (arith, lt-ltb, kind-passed)

    -- whether a break comes before line j, which is reported
    break-here : (j : ℕ) → v ≤ j → j ≤ i → i - j ≤ B → is_reported j ≡ true
        → (not (is_reported (j - 1)) && some_below is_reported j) ≡ breaks_near k v j i
    break-here j low high close shown = ⊎_elim after_report first_report (cases_lt 0 v)
      where
        -- the line before is reported
        joined : is_reported (j - 1) ≡ true → breaks_near k v j i ≡ false
            → (not (is_reported (j - 1)) && some_below is_reported j) ≡ breaks_near k v j i
        joined shown unbroken = rw (shown, unbroken) refl

        first_report : v ≤ 0 → (not (is_reported (j - 1)) && some_below is_reported j)
            ≡ breaks_near k v j i
        first_report none =
            let out = le-ltb 0 v none in
            let unbroken : breaks_near k v j i ≡ false = rw out refl in
            ⊎_elim (λ above. ⊎_elim
            (λ inner. joined (reported-passed (j - 1) (omega arith) (omega arith)
            ∙ le-leb (i - (j - 1)) B (omega arith)) unbroken)
            (λ outer. let silent = some_below-none is_reported j
            (λ q below. reported-passed q (omega arith) (omega arith)
            ∙ lt-leb (i - q) B (omega arith)) in
            rw (silent, unbroken) (and-false _)) (cases_lt (i - j) B))
            (λ zero_j. let same : j - 1 ≡ j = omega arith in joined (ap is_reported same ∙ shown)
            unbroken) (cases_lt 0 j)

        after_report : 0 < v → (not (is_reported (j - 1)) && some_below is_reported j)
            ≡ breaks_near k v j i
        after_report some = ⊎_elim (λ above.
            let prior = reported-passed (j - 1) (omega arith) (omega arith) in
            let earlier = some_below-some is_reported j (v - 1) (omega arith) (near.shown some) in
            let a = lt-ltb 0 v some in
            let b = lt-ltb v j above in
            rw (prior, earlier, a, b) (and-true _ ∙ ⊎_elim
            (λ inner. let p = le-leb (i - (j - 1)) B (omega arith) in let q = ne_eqb (i - j) B
            (λ e. omega arith) in
            rw (p, q) refl)
            (λ outer. let p = lt-leb (i - (j - 1)) B (omega arith) in let q = eq-eqb (i - j) B
            (omega arith) in
            rw (p, q) refl) (cases_lt (i - j) B)))
            (λ at. let same : v - 1 ≡ j - 1 = omega arith in let b = le-ltb v j at in
            joined (ap is_reported (sym same) ∙ near.shown some)
            (rw (b, and-false (nat_lt 0 v)) refl)) (cases_lt v j)

    -- the break before a passed line, and before the match
    pub gap-passed : (j : ℕ) → v ≤ j → j < i → i - j ≤ B
        → (nat_lt 0 (A + B) && true && not (is_reported (j - 1)) && some_below is_reported j)
        ≡ breaks_near k v j i
    gap-passed j low less close = grind (arith, lt-ltb, break-here, reported-passed, le-leb)

    pub gap-hit : (nat_lt 0 (A + B) && true && not (is_reported (i - 1))
        && some_below is_reported i) ≡ (nat_lt 0 A && breaks_near k v i i)
    gap-hit = grind (arith, break-here, reported-here, lt-ltb, le-ltb, ne_eqb, and-false, cases_lt)

    -- the next selected line after a passed one
    pub next-passed : (j : ℕ) → v ≤ j → j < i → first_below (λ q. nat_lt j q && selected q) n
        ≡ Some i
    next-passed j low less =
        first_below-here (λ q. nat_lt j q && selected q) n i inside
        (let a = lt-ltb j i less in rw (a, hit) refl) (some_below-none _ i
        (λ q below. ⊎_elim (λ follows_it. let c = (near.passed q (omega arith) below).0 in rw c
        (and-false _)) (λ ahead. let c = le-ltb j q ahead in rw c refl) (cases_lt j q)))

-- lines that aren't selected are passed unreported, if none is left to be reported after a match
pub IsNear-skipped : {k : Settings} {bytes : List ℕ} {selection : Selection} {v : ℕ} → k.passthru
    ≡ false → (i m : ℕ)
    → IsNear k bytes selection v i 0 → ((j : ℕ) → i ≤ j → j < i + m → selection.selected j ≡ false)
    → IsNear k bytes selection v (i + m) 0
IsNear-skipped {k} {bytes} {selection} {v} plain i zero near missed =
    let same : i ≡ i + zero = omega arith in subst (λ x. IsNear k bytes selection v x 0) same near
IsNear-skipped {k} {bytes} {selection} {v} plain i (suc m) near missed =
    let sum : (i + 1) + m ≡ i + suc m = omega arith in
    let one = IsNear-pass near (missed i (omega arith) (omega arith)) refl plain in
    subst (λ x. IsNear k bytes selection v x 0) sum
    (IsNear-skipped plain (i + 1) m one (λ j low high. missed j (omega arith) (omega arith)))
