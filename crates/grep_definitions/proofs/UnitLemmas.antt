-- The bytes that the match reports across lines have.
use Rattle.grep_definitions.specs.Plans.{across_plan, calls_at, is_touched_selected, line}
use Rattle.grep_definitions.specs.Plans.{line_count, number, start, touched_lines, planned, Call}
use Rattle.grep_definitions.specs.Plans.{Planned, matches, context, breaks, Settings, joined_from}
use Rattle.grep_definitions.specs.Plans.{Kind, matched, in_context, selects_free, Selection}
use Rattle.grep_definitions.specs.Plans.{breaks_before, count_at, follows_selected}
use Rattle.grep_definitions.specs.Plans.{precedes_selected, report, report_end, report_lines}
use Rattle.grep_definitions.specs.Plans
use Rattle.std.proofs.Common.{◌≡◌, ℕ, zero, suc, ◌+◌, ◌-◌, ◌<◌, ◌≤◌, Bool, true, false, not, ◌&&◌}
use Rattle.std.proofs.Common.{List, [], ◌++◌, length, take, drop, refl, sym, ap, subst, ◌∙◌}
use Rattle.std.proofs.Common.{arith, ⊎_elim, Option, Some, None, if◌then◌else◌}
use Rattle.std.proofs.Math.Seq.{take-add}
use Rattle.std.proofs.lemmas.Bool.{cases_Bool, cases_lt, lt-ltb}
use Rattle.std.proofs.lemmas.Grind.{flat_map-append}
use Rattle.std.proofs.lemmas.List.{append-nil, drop-drop, length-take, length-drop}
use Rattle.std.specs.Prelude.{nat_lt, slice_range}
use Rattle.std.specs.List.{flat_map}
use Rattle.std.specs.List.Sorted.{IsStrictlyIncreasing}
use Rattle.grep_matcher.specs.Meanings.{Meaning}
use Rattle.grep_matcher.specs.Lines.{byte_of}
use Rattle.grep_report.specs.declared.sink_context.SinkContextKind.{SinkContextKind}
use Rattle.grep_report.specs.declared.sink_context.SinkContextKind.TheVariants.{Before, After}
use Rattle.grep_report.specs.declared.sink_context.SinkContextKind.TheVariants.{Other}
use Rattle.grep_definitions.proofs.LineSliceLemmas.{slice-line}
use Rattle.grep_definitions.specs.AcrossLaws.{report_bytes, report_edges}
use Rattle.grep_definitions.proofs.BelowLemmas.{joined_from-equal}
use Rattle.grep_definitions.proofs.BoolLemmas.{clash}
use Rattle.grep_definitions.proofs.RunLemmas.{run_end, IsRunEnd-run_end, continues, joined-runs}
use Rattle.grep_definitions.proofs.RunLemmas.{edges, edges-rise}
use Rattle.grep_matcher.proofs.LineStartLemmas.{line_start-ascends, line_start-more}
use Rattle.grep_matcher.proofs.LineStartLemmas.{line_start-within, line_start-le}
use Rattle.grep_definitions.proofs.SearchLawLemmas.{kind-selected}
use Rattle.grep_definitions.specs.Plans.{report_surroundings}

-- a line that isn't reported as a match isn't selected
kind-other : (a b c d : Bool) (kind : Option Kind) → (if a then Some matched
    else (if b then Some (in_context After)
    else (if c then Some (in_context Before) else (if d then Some (in_context Other) else None))))
    ≡ kind → (kind ≡ Some matched → ⊥) → a ≡ false
kind-other true b c d kind is other = absurd (other (sym is))
kind-other false b c d kind is other = refl

-- what is gathered of joined calls
flat_map-joined : (g : Planned → List ℕ) (f : ℕ → List Planned) (i n : ℕ)
    → flat_map g (joined_from f i n) ≡ joined_from (λ j. flat_map g (f j)) i n
flat_map-joined g f i zero = refl
flat_map-joined g f i (suc n) = grind (arith, flat_map-append, flat_map-joined g f (i + 1) n)

-- two slices, one after the other, are one
slice-join : (bytes : List ℕ) (a b c : ℕ) → a ≤ b → b ≤ c → slice_range bytes a b
    ++ slice_range bytes b c ≡ slice_range bytes a c
slice-join bytes a b c first second =
    let sum : c - a ≡ (b - a) + (c - b) = omega arith in
    let at : a + (b - a) ≡ b = omega arith in
    sym (ap (λ k. take k (drop a bytes)) sum ∙ take-add (b - a) (c - b) (drop a bytes)
    ∙ ap (λ l. take (b - a) (drop a bytes) ++ take (c - b) l) (drop-drop (b - a) a bytes
    ∙ ap (λ k. drop k bytes) at))

module _ (k : Settings) (meaning : Meaning) (bytes : List ℕ) where
  abbrev selection : Selection
  selection = touched_lines k meaning bytes

  abbrev n : ℕ
  n = line_count k bytes

  abbrev at : ℕ → ℕ
  at = start k bytes

  abbrev selected : ℕ → Bool
  selected = is_touched_selected k meaning bytes

  abbrev goes_on : ℕ → Bool
  goes_on = Plans.continues k bytes selection

  -- the bytes of a line, if it is selected, and those of the report that begins there
  abbrev each : ℕ → List ℕ
  each i = if selected i then line k bytes i else []

  abbrev whole : ℕ → List ℕ
  whole i = if selected i && not (goes_on i) then report_lines k bytes selection i else []

  -- and so are those of selected lines, one after the other
  lines-slice : (i m : ℕ) → i + m ≤ n → ((j : ℕ) → i ≤ j → j < i + m → selected j ≡ true)
      → slice_range bytes (at i) (at (i + m)) ≡ joined_from each i m
  lines-slice i zero inside all =
      let same : i + zero ≡ i = omega arith in
      let nothing : at i - at i ≡ zero = omega arith in
      rw (same, nothing) refl
  lines-slice i (suc m) inside all =
      let t = byte_of k.line_terminator in
      let sum : i + suc m ≡ (i + 1) + m = omega arith in
      let here = all i (omega arith) (omega arith) in
      ap (λ x. slice_range bytes (at i) (at x)) sum
      ∙ sym (slice-join bytes (at i) (at (i + 1)) (at ((i + 1) + m))
      (line_start-le (byte_of k.line_terminator) bytes i (i + 1) (omega arith))
      (line_start-le (byte_of k.line_terminator) bytes (i + 1) ((i + 1) + m) (omega arith)))
      ∙ (rw (
        slice-line k bytes i,
        lines-slice (i + 1) m (omega arith) (λ j low below. all j (omega arith) (omega arith)),
        here,
      ) refl)

  -- the match report of the unit that begins at a line
  abbrev report_at : ℕ → Call
  report_at i = matches (number k bytes i) (at i) (report_lines k bytes selection i)
      (report_surroundings k bytes selection i)

  -- what is gathered of the match reports alone
  module _ (g : Call → List ℕ) (in_context_none : (c : SinkContextKind) (o : Option ℕ) (offset : ℕ)
      (bytes : List ℕ)
      → g (context c o offset bytes) ≡ []) (in_breaks_none : g breaks ≡ []) where
    abbrev gathered : ℕ → List ℕ
    gathered i = if selected i && not (goes_on i) then g (report_at i) else []

    gathered-report : (i : ℕ) (kind : Option Kind) → Plans.kind k bytes selection i ≡ kind
        → flat_map (λ call. g call.call) (report k bytes selection i kind) ≡ gathered i
    gathered-report i None is = grind (arith, kind-other)
    gathered-report i (Some matched) is = grind (arith, kind-selected, append-nil, cases_Bool)
    gathered-report i (Some (in_context c)) is = grind (arith, kind-other)

    gathered-line : (i : ℕ) → flat_map (λ call. g call.call) (calls_at k bytes selection i)
        ≡ gathered i
    gathered-line i = grind (arith, gathered-report)

    gathered-lines : flat_map (λ call. g call.call) (joined_from (calls_at k bytes selection) 0 n)
        ≡ joined_from gathered 0 n
    gathered-lines = grind (arith, flat_map-joined, joined_from-equal, gathered-line)

  -- under inversion a report has one line
  alone : selects_free k ≡ true → (i : ℕ) → i < n → whole i ≡ each i
  alone inverted i inside = grind (arith, slice-line, cases_Bool)

  -- and otherwise those of a longest run of selected lines
  together : selects_free k ≡ false → joined_from whole 0 n ≡ joined_from each 0 n
  together plain = joined-runs selected n whole each (λ i none. rw none refl)
      (λ i none. rw none refl) (λ i here later. let on = same i plain ∙ later in rw (here, on) refl)
      (λ i inside here first.
      let fresh = same i plain ∙ first in
      let end : report_end k bytes selection i ≡ run_end selected n i =
      ap (λ b. if not b then run_end selected n i else i + 1) plain in
      let run = IsRunEnd-run_end selected n i inside here in
      let sum : i + (run_end selected n i - i) ≡ run_end selected n i = omega arith in
      let unit : report_lines k bytes selection i ≡ joined_from each i (run_end selected n i - i) =
      ap (λ e. slice_range bytes (at i) (at e)) (end ∙ sym sum)
      ∙ lines-slice i (run_end selected n i - i) (omega arith)
      (λ j low below. run.inner j low (omega arith)) in
      rw (here, fresh) unit)
    where
      same : (i : ℕ) → selects_free k ≡ false → goes_on i ≡ continues selected n i
      same i plain = ap (λ b. not b && nat_lt 0 i && selected (i - 1)) plain

  -- the match reports are the selected lines
  pub bytes-calls : flat_map (λ call. report_bytes call.call) (across_plan k meaning bytes).calls
      ≡ joined_from each 0 n
  bytes-calls =
      gathered-lines report_bytes (λ c o offset bytes. refl) refl ∙ ⊎_elim
      (λ inverted. joined_from-equal whole each 0 n (λ j low high. alone inverted j (omega arith)))
      (λ plain. together plain) (cases_Bool (selects_free k))

  -- a unit's bytes end where its last line ends
  unit-end : (i : ℕ) → i < n → selected i ≡ true → selects_free k ≡ false
      → at i + length (report_lines k bytes selection i) ≡ at (run_end selected n i)
  unit-end i inside here plain =
      grind (
        arith,
        run_end,
        IsRunEnd-run_end,
        length-take,
        length-drop,
        line_start-le,
        line_start-within,
      )

  -- the lines of the unit that begins at a selected line, and where its bytes end
  pub record IsUnitOf (i : ℕ) : Type 0 where
    pub later : i < report_end k bytes selection i
    pub size : at i + length (report_lines k bytes selection i)
        ≡ at (report_end k bytes selection i)
    pub hits : (j : ℕ) → i < j → j < report_end k bytes selection i → (selected j ≡ true)
        × (goes_on j ≡ true)

  pub unit-lines : (i : ℕ) → i < n → selected i ≡ true → IsUnitOf i
  unit-lines i inside here = ⊎_elim (λ (inverted : selects_free k ≡ true).
      let end : report_end k bytes selection i
      ≡ i + 1 = ap (λ b. if not b then run_end selected n i else i + 1) inverted in
      record {
        later = omega arith;
        size = omega (
          arith,
          ap (λ e. length (slice_range bytes (at i) (at e))) end,
          ap at end,
          ap length (slice-line k bytes i),
          line_start-more (byte_of k.line_terminator) bytes i inside,
        );
        hits = λ j low high. absurd (omega arith);
      }) (λ (plain : selects_free k ≡ false).
      let end : report_end k bytes selection i ≡ run_end selected n i =
      ap (λ b. if not b then run_end selected n i else i + 1) plain in
      let run = IsRunEnd-run_end selected n i inside here in
      record {
        later = ⊎_elim (λ less. omega arith) (λ over.
            let same : run_end selected n i ≡ i = omega arith in
            absurd (clash here (ap selected (sym same) ∙ run.closed (omega (arith, same)))))
            (cases_lt i (run_end selected n i));
        size = unit-end i inside here plain ∙ ap at (sym end);
        hits = λ j low high.
            let before = run.inner (j - 1) (omega arith) (omega arith) in
            let above = lt-ltb 0 j (omega arith) in (
              run.inner j (omega arith) (omega arith),
              ap (λ b. not b && nat_lt 0 j && selected (j - 1)) plain ∙ (rw (above, before) refl),
            );
      }) (cases_Bool (selects_free k))

  -- each report ends before the next one begins
  pub edges-calls : selects_free k ≡ false
      → IsStrictlyIncreasing (flat_map (λ call. report_edges call.call)
      (across_plan k meaning bytes).calls)
  edges-calls plain =
      subst IsStrictlyIncreasing (sym (gathered-lines report_edges (λ c o offset bytes. refl) refl
      ∙ joined_from-equal (gathered report_edges (λ c o offset bytes. refl) refl)
      (edges selected n at rises higher) 0 n (λ j low high. same j (omega arith))))
      (edges-rise selected n at rises higher)
    where
      rises : (i : ℕ) → i < n → at i < at (i + 1)
      rises = line_start-ascends (byte_of k.line_terminator) bytes

      higher : (i j : ℕ) → i ≤ j → at i ≤ at j
      higher = line_start-le (byte_of k.line_terminator) bytes

      on : (i : ℕ) → goes_on i ≡ continues selected n i
      on i = ap (λ b. not b && nat_lt 0 i && selected (i - 1)) plain

      same : (i : ℕ) → i < n → gathered report_edges (λ c o offset bytes. refl) refl i
          ≡ edges selected n at rises higher i
      same i inside = ⊎_elim (λ (here : selected i ≡ true). ⊎_elim
          (λ (later : goes_on i ≡ true). let run = sym (on i) ∙ later in rw (here, later, run) refl)
          (λ (first : goes_on i ≡ false). let run = sym (on i)
          ∙ first in rw (here, first, run, unit-end i inside here plain) refl)
          (cases_Bool (goes_on i))) (λ (none : selected i ≡ false). rw none refl)
          (cases_Bool (selected i))
