-- The counts of the calls across lines, against where lines start.
use Rattle.grep_definitions.specs.Plans.{across_plan, calls_at, count_at, report_end, through}
use Rattle.grep_definitions.specs.Plans.{touched_lines, planned, Planned, breaks, first_below, Kind}
use Rattle.grep_definitions.specs.Plans.{matched, in_context, Settings, Selection, follows_selected}
use Rattle.grep_definitions.specs.Plans.{next_report_end, precedes_selected}
use Rattle.grep_definitions.specs.Plans
use Rattle.std.proofs.Common.{◌≡◌, ◌⊎◌, ℕ, ◌+◌, ◌-◌, ◌<◌, ◌≤◌, Bool, true, false, ◌&&◌, List, []}
use Rattle.std.proofs.Common.{◌∷◌, Option, Some, None, refl, sym, ◌∙◌, ap, subst, arith, ⊎_elim}
use Rattle.std.proofs.Common.{inl, inr, if◌then◌else◌}
use Rattle.std.proofs.Math.Bool.{and-false}
use Rattle.std.proofs.lemmas.Bool.{ltb-true, cases_lt, cases_Bool, and_parts}
use Rattle.std.proofs.lemmas.List.Elements.{All-nil, All-cons, All-weaker}
use Rattle.std.specs.Prelude.{nat_le, nat_lt, All}
use Rattle.std.specs.Option.{option_map, unwrap_or}
use Rattle.grep_matcher.specs.Meanings.{Meaning}
use Rattle.grep_matcher.specs.Lines.{byte_of}
use Rattle.grep_report.specs.declared.sink_context.SinkContextKind.TheVariants.{Before, After}
use Rattle.grep_report.specs.declared.sink_context.SinkContextKind.TheVariants.{Other}
use Rattle.grep_definitions.proofs.AcrossWalkLemmas.{Near, front, front-through, n, S, starts, T}
use Rattle.grep_definitions.proofs.BelowLemmas.{first_below-none, first_below-of, some_below-find}
use Rattle.grep_definitions.proofs.BelowLemmas.{some_below-some}
use Rattle.grep_definitions.proofs.BoolLemmas.{clash}
use Rattle.grep_matcher.proofs.LineStartLemmas.{line_start-ascends, line_start-le}
use Rattle.grep_definitions.proofs.SearchLawLemmas.{kind-selected}
use Rattle.grep_definitions.proofs.CountLemmas.{ended-by}
use Rattle.grep_definitions.proofs.UnitLemmas.{unit-lines}

module _ (k : Settings) (meaning : Meaning) (bytes : List ℕ) where
  abbrev selection : Selection
  selection = touched_lines k meaning bytes

  abbrev at : ℕ → ℕ
  at = starts k meaning bytes

  abbrev selected : ℕ → Bool
  selected = S k meaning bytes

  abbrev count : ℕ
  count = n k meaning bytes

  higher : (i j : ℕ) → i ≤ j → at i ≤ at j
  higher = line_start-le (byte_of k.line_terminator) bytes

  -- the selected lines after line j are those from line i on
  abbrev SelectsFrom : ℕ → ℕ → Type 0
  SelectsFrom i j = (q : ℕ) → j < q → q < count → selected q ≡ true → i ≤ q

  -- the next unit after line j ends after line i, if line j isn't before that, or if there is such
  -- a unit
  next-late : (i j : ℕ) → SelectsFrom i j → (i ≤ j) ⊎ (precedes_selected k bytes selection j ≡ true)
      → i < next_report_end k bytes selection j
  next-late i j from some = go (first_below later count) refl
    where
      later : ℕ → Bool
      later q = nat_lt j q && selected q

      nearer : ℕ → Bool
      nearer q = nat_lt j q && nat_le (q - j) k.before_context && selected q

      weaker : (q : ℕ) → nearer q ≡ true → later q ≡ true
      weaker q is =
          let both = and_parts (nat_lt j q && nat_le (q - j) k.before_context) (selected q) is in
          let above = (and_parts (nat_lt j q) (nat_le (q - j) k.before_context) both.0).0 in
          let here = both.1 in
          rw (above, here) refl

      go : (o : Option ℕ) → first_below later count ≡ o
          → i < unwrap_or (option_map (report_end k bytes selection) o) (j + 1)
      go None is = ⊎_elim (λ low. omega arith) (λ precedes.
          let found = some_below-find nearer count precedes in
          absurd (clash (some_below-some later count found.0 found.1 (weaker found.0 found.2))
          (first_below-none later count is))) some
      go (Some q) is =
          let found = first_below-of later count q is in
          let both = and_parts (nat_lt j q) (selected q) found.1 in
          omega (
            arith,
            from q (ltb-true j q both.0) found.0 both.1,
            (unit-lines k meaning bytes q found.0 both.1).later,
          )

  -- if the count of a line is after some offset, so is that of each of its calls
  ends-calls_at : (bound j : ℕ) → ((kind : Kind) → Plans.kind k bytes selection j ≡ Some kind
      → bound ≤ count_at k bytes selection j (Some kind))
      → All (λ call. bound ≤ call.if_false.count) (calls_at k bytes selection j)
  ends-calls_at bound j late = go (Plans.kind k bytes selection j) refl
    where
      P : Planned → Type 0
      P call = bound ≤ call.if_false.count

      choose : (b : Bool) (call : Planned) (rest : List Planned) → P call → All P rest
          → All P (if b then call ∷ rest else rest)
      choose true call rest low all = All-cons P call rest low all
      choose false call rest low all = all

      skip : (b : Bool) (call : Planned) → P call → All P (if b then [] else call ∷ [])
      skip true call low = All-nil P
      skip false call low = All-cons P call [] low (All-nil P)

      report : (kind : Kind) → bound ≤ count_at k bytes selection j (Some kind)
          → All P (Plans.report k bytes selection j (Some kind))
      report matched low = skip _ _ low
      report (in_context c) low = All-cons P _ [] low (All-nil P)

      go : (kind : Option Kind) → Plans.kind k bytes selection j ≡ kind
          → All P (calls_at k bytes selection j)
      go None is = rw (is, and-false (nat_lt 0 (k.after_context + k.before_context))) (All-nil P)
      go (Some kind) is =
          let low = late kind is in
          rw is (choose _ (planned breaks (count_at k bytes selection j (Some kind)))
          (Plans.report k bytes selection j (Some kind)) low (report kind low))

  -- a line that a walk at line i passed unreported, or has still to come to, has a count after line
  -- i
  module _ {v i left : ℕ} (near : Near k meaning bytes v i left) where
    from-here : (j : ℕ) → v ≤ j → SelectsFrom i j
    from-here j low q less inside hit = grind arith

    ends-late : (j : ℕ) → v ≤ j → j < count → All (λ call. at (i + 1) ≤ call.if_false.count)
        (T k meaning bytes j)
    ends-late j low inside = ends-calls_at (at (i + 1)) j (λ kind is. go kind is (cases_lt j i))
      where
        after : i ≤ j → at (i + 1) ≤ at (j + 1)
        after over = higher (i + 1) (j + 1) (omega arith)

        next : (i ≤ j) ⊎ (precedes_selected k bytes selection j ≡ true)
            → at (i + 1) ≤ at (next_report_end k bytes selection j)
        next some = higher (i + 1) _ (omega (arith, next-late i j (from-here j low) some))

        go : (kind : Kind) → Plans.kind k bytes selection j ≡ Some kind → (j < i) ⊎ (i ≤ j)
            → at (i + 1) ≤ count_at k bytes selection j (Some kind)
        go matched is (inl less) =
            absurd (clash (kind-selected (selected j) (follows_selected k bytes selection j)
            (precedes_selected k bytes selection j) k.passthru is) (near.passed j low less).0)
        go matched is (inr over) =
            let here = kind-selected (selected j) (follows_selected k bytes selection j)
            (precedes_selected k bytes selection j) k.passthru is in
            higher (i + 1) (report_end k bytes selection j)
            (omega (arith, (unit-lines k meaning bytes j inside here).later))
        go (in_context After) is (inr over) = after over
        go (in_context Other) is (inr over) = after over
        go (in_context Before) is (inr over) = next (inl over)
        go (in_context c) is (inl less) =
            let misses : selected j ≡ false = (near.passed j low less).0 in
            let alone : follows_selected k bytes selection j ≡ false = (near.passed j low less).1 in
            ⊎_elim (λ (precedes : precedes_selected k bytes selection j ≡ true).
            let before : Plans.kind k bytes selection j
            ≡ Some (in_context Before) = rw (misses, alone, precedes) refl in
            let same : in_context c ≡ in_context Before = let e = sym is ∙ before in cc in
            subst (λ o. at (i + 1) ≤ count_at k bytes selection j (Some o)) (sym same)
            (next (inr precedes))) (λ (last : precedes_selected k bytes selection j ≡ false).
            let plain : k.passthru ≡ false = ⊎_elim (λ yes. absurd (omega (arith, near.bare yes)))
            (λ no. no) (cases_Bool k.passthru) in
            let none : Plans.kind k bytes selection j ≡ None =
            rw (misses, alone, last, plain) refl in
            absurd (let e = sym none ∙ is in cc))
            (cases_Bool (precedes_selected k bytes selection j))

    -- just the calls so far have counts at or before the start of line i, if theirs are
    pub through-is : i < count → All (λ call. call.if_false.count ≤ at i) (front k meaning bytes v)
        → through (at i) (across_plan k meaning bytes).calls ≡ front k meaning bytes v
    through-is inside ended =
        ap (through (at i)) (front-through k meaning bytes v count (omega arith))
        ∙ ended-by (at i) (front k meaning bytes v) (T k meaning bytes) v (count - v) ended
        (λ j low high.
        All-weaker (λ call. at (i + 1) ≤ call.if_false.count) (λ call. at i < call.if_false.count)
        (λ call low. omega (arith, line_start-ascends (byte_of k.line_terminator) bytes i inside))
        (T k meaning bytes j) (ends-late j low (omega arith)))
