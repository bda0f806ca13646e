-- The calls of a search across lines, as a walk over units of selected lines and over the lines
-- between them makes them.
use Rattle.grep_definitions.specs.LineWalks.{IsNear}
use Rattle.grep_definitions.specs.Plans.{across_plan, calls_at, continues, is_touched_selected}
use Rattle.grep_definitions.specs.Plans.{line, line_count, number, start, touched_lines, planned}
use Rattle.grep_definitions.specs.Plans.{Planned, begins, Settings, some_below, joined_from}
use Rattle.grep_definitions.specs.Plans.{matched, in_context, selects_free, Selection, report_end}
use Rattle.grep_definitions.specs.Plans
use Rattle.std.proofs.Common.{◌≡◌, ℕ, suc, ◌+◌, ◌-◌, ◌<◌, ◌≤◌, Bool, true, false, not, ◌&&◌, ◌||◌}
use Rattle.std.proofs.Common.{List, [], ◌∷◌, ◌++◌, refl, sym, ap, subst, ◌∙◌, arith, ⊎_elim, Some}
use Rattle.std.proofs.Common.{None, if◌then◌else◌}
use Rattle.std.proofs.Math.Bool.{and-false}
use Rattle.std.proofs.lemmas.Bool.{lt-leb, le-leb, cases_Bool, cases_lt}
use Rattle.std.proofs.lemmas.List.{append-nil}
use Rattle.std.specs.Prelude.{nat_lt, nat_le, slice_range}
use Rattle.grep_matcher.specs.Meanings.{Meaning}
use Rattle.grep_report.specs.declared.sink_context.SinkContextKind.TheVariants.{Before, After}
use Rattle.grep_report.specs.declared.sink_context.SinkContextKind.TheVariants.{Other}
use Rattle.grep_definitions.specs.LineCalls.{before_calls, pending_calls, selected_calls}
use Rattle.grep_definitions.specs.LineCalls.{context_calls, breaks_near}
use Rattle.grep_definitions.specs.SearchLaws.{number_of}
use Rattle.grep_definitions.proofs.BelowLemmas.{joined_from-add, joined_from-equal}
use Rattle.grep_definitions.proofs.BelowLemmas.{joined_from-none, headed-through}
use Rattle.grep_definitions.proofs.RunLemmas.{run_end, IsRunEnd-run_end, IsRunEnd-one}
use Rattle.grep_definitions.proofs.SelectionLemmas
use Rattle.grep_definitions.proofs.LineSliceLemmas.{number-line, slice-line}
use Rattle.grep_report.specs.SinkReports.{surroundings}

module _ (k : Settings) (meaning : Meaning) (bytes : List ℕ) where
  abbrev selection : Selection
  selection = touched_lines k meaning bytes

  abbrev pub n : ℕ
  n = line_count k bytes

  abbrev pub starts : ℕ → ℕ
  starts = start k bytes

  abbrev pub S : ℕ → Bool
  S = is_touched_selected k meaning bytes

  abbrev pub T : ℕ → List Planned
  T = calls_at k bytes selection

  -- the bytes of the lines from one up to another
  abbrev pub span : ℕ → ℕ → List ℕ
  span i e = slice_range bytes (starts i) (starts e)

  abbrev pub Bare : Type 0
  Bare = k.passthru ≡ true → (k.after_context ≡ 0) × (k.before_context ≡ 0)

  abbrev pub Near : ℕ → ℕ → ℕ → Type 0
  Near v i left = IsNear k bytes selection v i left

  -- `begin`, and the calls of the first i lines
  abbrev pub front : ℕ → List Planned
  front i = planned begins 0 ∷ joined_from T 0 i

  abbrev A : ℕ
  A = k.after_context

  abbrev B : ℕ
  B = k.before_context

  abbrev is_reported : ℕ → Bool
  is_reported = Plans.is_reported k bytes selection

  -- and then those of the lines up to a later one
  pub front-through : (v i : ℕ) → v ≤ i → front i ≡ front v ++ joined_from T v (i - v)
  front-through = headed-through (planned begins 0) T

  -- before the first line
  pub near-none : Near 0 0 0
  near-none = SelectionLemmas.IsNear-none k bytes selection

  -- lines that aren't selected are passed unreported
  pub near-skipped : {v i : ℕ} (e : ℕ) → Near v i 0 → k.passthru ≡ false → i ≤ e → e ≤ n
      → ((j : ℕ) → i ≤ j → j < e → S j ≡ false) → Near v e 0
  near-skipped {v} {i} e near plain low high missed =
      let sum : i + (e - i) ≡ e = omega arith in
      subst (λ x. Near v x 0) sum (SelectionLemmas.IsNear-skipped plain i (e - i) near
      (λ j from below. missed j from (omega arith)))

  -- one such line, and its calls
  pub near-missed : Bare → {v i left : ℕ} → Near v i left → i < n → S i ≡ false
      → Near (if nat_lt 0 left || k.passthru then i + 1 else v) (i + 1) (left - 1)
  near-missed bare near inside missed =
      SelectionLemmas.IsNear-missed near (λ is. (bare is).1) inside missed

  pub front-missed : Bare → {v i left : ℕ} → Near v i left → i < n → S i ≡ false
      → front (if nat_lt 0 left || k.passthru then i + 1 else v)
      ≡ front v ++ (if nat_lt 0 left then context_calls After (number_of k i) (starts i)
      (starts (i + 1)) (span i (i + 1))
      else (if k.passthru then context_calls Other (number_of k i) (starts i) (starts (i + 1))
      (span i (i + 1))
      else []))
  front-missed bare {v} {i} {left} near inside missed =
      SelectionLemmas.headed-missed near (planned begins 0) T _ _ after other
    where
      is_number : number k bytes i ≡ number_of k i
      is_number = number-line k bytes i inside

      is_line : line k bytes i ≡ span i (i + 1)
      is_line = sym (slice-line k bytes i)

      after : 0 < left → T i ≡ context_calls After (number_of k i) (starts i) (starts (i + 1))
          (span i (i + 1))
      after some =
          let kind : Plans.kind k bytes selection i ≡ Some (in_context After) =
          SelectionLemmas.kind-after near missed some in
          rw (kind, and-false (nat_lt 0 (A + B)), is_number, is_line) refl

      other : left ≡ 0 → k.passthru ≡ true → T i ≡ context_calls Other (number_of k i) (starts i)
          (starts (i + 1)) (span i (i + 1))
      other none is_p =
          let kind : Plans.kind k bytes selection i ≡ Some (in_context Other) =
          SelectionLemmas.kind-other near missed none is_p (bare is_p).1 in
          rw (kind, and-false (nat_lt 0 (A + B)), is_number, is_line) refl

  -- after a unit
  pub near-unit : (i e : ℕ) → i < e → e ≤ n → ((j : ℕ) → i ≤ j → j < e → S j ≡ true)
      → Near e e k.after_context
  near-unit i e some high hits =
      let sum : (e - 1) + 1 ≡ e = omega arith in
      subst (λ x. Near x x k.after_context) sum
      (SelectionLemmas.IsNear-hit k bytes selection (e - 1) (omega arith)
      (hits (e - 1) (omega arith) (omega arith)))

  module _ {v i left : ℕ} (e : ℕ) (near : Near v i left) (some : i < e) (high : e ≤ n)
      (hits : (j : ℕ) → i ≤ j → j < e → S j ≡ true)
      (closed : selects_free k ≡ false → e < n → S e ≡ false) (alone : selects_free k ≡ true → e ≡ i
      + 1) where
    inside : i < n
    inside = omega arith

    hit : S i ≡ true
    hit = hits i (omega arith) some

    -- the unit ends there
    end-is : report_end k bytes selection i ≡ e
    end-is = ⊎_elim (λ inverted. rw inverted (sym (alone inverted)))
        (λ plain. ap (λ b. if not b then run_end S n i else i + 1) plain
        ∙ IsRunEnd-one S n i (run_end S n i) e (IsRunEnd-run_end S n i inside hit)
        (record { low = omega arith; high = high; inner = hits; closed = closed plain }))
        (cases_Bool (selects_free k))

    -- the calls of a line before it that was passed
    passed-is : (j : ℕ) → v ≤ j → j < i
        → T j ≡ before_calls k v j i (number k bytes j) (starts j) (starts e) (line k bytes j)
    passed-is j low less = ⊎_elim far close (cases_lt B (i - j))
      where
        is_kind : Plans.kind k bytes selection j
            ≡ (if nat_le (i - j) B then Some (in_context Before) else None)
        is_kind = SelectionLemmas.kind-passed near inside inside hit j low less

        far : B < i - j → T j ≡ before_calls k v j i (number k bytes j) (starts j) (starts e)
            (line k bytes j)
        far out =
            let test = lt-leb (i - j) B out in
            let kind : Plans.kind k bytes selection j ≡ None = is_kind
            ∙ ap (λ b. if b then Some (in_context Before) else None) test in
            rw (kind, and-false (nat_lt 0 (A + B)), test) refl

        close : i - j ≤ B → T j ≡ before_calls k v j i (number k bytes j) (starts j) (starts e)
            (line k bytes j)
        close inner =
            let test = le-leb (i - j) B inner in
            let kind : Plans.kind k bytes selection j ≡ Some (in_context Before) = is_kind
            ∙ ap (λ b. if b then Some (in_context Before) else None) test in
            let gap : (nat_lt 0 (A + B) && true && not (is_reported (j - 1))
            && some_below is_reported j)
            ≡ breaks_near k v j i =
            SelectionLemmas.gap-passed near inside inside hit j low less inner in
            let found = SelectionLemmas.next-passed near inside inside hit j low less in
            rw (kind, gap, found, end-is, test) refl

    -- those of its first line
    hit-is : continues k bytes selection i ≡ false → T i ≡ selected_calls k v i (starts i)
        (starts e) (span i e) (surroundings bytes (starts i) (starts e))
    hit-is first =
        let kind : Plans.kind k bytes selection i ≡ Some matched = rw hit refl in
        let gap : (nat_lt 0 (A + B) && true && not (is_reported (i - 1))
        && some_below is_reported i)
        ≡ (nat_lt 0 A && breaks_near k v i i) =
        SelectionLemmas.gap-hit near inside inside hit in
        let is_number = number-line k bytes i inside in
        rw (kind, gap, first, is_number, end-is) refl

    -- a later line of it has none
    later-is : (j : ℕ) → i < j → j < e → T j ≡ []
    later-is j less below = grind arith

  -- the calls of a unit: those of the lines before it, and the match at its first line
  pub front-unit : {v i left : ℕ} (e : ℕ) → Near v i left → i < e → e ≤ n
      → ((j : ℕ) → i ≤ j → j < e → S j ≡ true)
      → (selects_free k ≡ false → e < n → S e ≡ false) → (selects_free k ≡ true → e ≡ i + 1)
      → continues k bytes selection i ≡ false
      → front e ≡ front v ++ (pending_calls k bytes v i (starts e) v (i - v)
      ++ selected_calls k v i (starts i) (starts e) (span i e)
      (surroundings bytes (starts i) (starts e)))
  front-unit {v} {i} e near some high hits closed alone first =
      let reach = near.low in
      let sum : e - v ≡ (i - v) + suc (e - (i + 1)) = omega arith in
      let at : v + (i - v) ≡ i = omega arith in
      let pending = joined_from-equal T _ v (i - v) (λ j low below.
      passed-is e near some high hits closed alone j low (omega arith)) in
      let rest = joined_from-none T (i + 1) (e - (i + 1)) (λ j low below.
      later-is e near some high hits closed alone j (omega arith) (omega arith)) in
      let here = hit-is e near some high hits closed alone first in
      front-through v e (omega arith) ∙ ap (λ xs. front v ++ xs)
      (ap (joined_from T v) sum ∙ (joined_from-add T v (i - v) (suc (e - (i + 1)))
      ∙ (ap (λ m. joined_from T v (i - v) ++ joined_from T m (suc (e - (i + 1)))) at
      ∙ (ap (λ xs. joined_from T v (i - v) ++ (T i ++ xs)) rest
      ∙ (ap (λ xs. joined_from T v (i - v) ++ xs) (append-nil (T i) ∙ here)
      ∙ ap (λ xs. xs ++ selected_calls k v i (starts i) (starts e) (span i e)
      (surroundings bytes (starts i) (starts e))) pending)))))

  -- after the last line
  pub front-done : {v left : ℕ} → Near v n left → (across_plan k meaning bytes).calls ≡ front v
  front-done {v} near =
      front-through v n near.low
      ∙ (ap (λ xs. front v ++ xs) (joined_from-none T v (n - v) none) ∙ append-nil (front v))
    where
      none : (j : ℕ) → v ≤ j → j < v + (n - v) → T j ≡ []
      none j low below =
          let kind : Plans.kind k bytes selection j ≡ None =
          SelectionLemmas.kind-done near (λ q late inner. absurd (omega arith)) j low
          (omega arith) in
          rw (kind, and-false (nat_lt 0 (A + B))) refl
