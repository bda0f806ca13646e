-- What the calls across lines report.
use Rattle.grep_definitions.specs.Plans.{across_plan, calls_at, continues, is_touched_selected}
use Rattle.grep_definitions.specs.Plans.{line, line_count, number, start, touched_lines, planned}
use Rattle.grep_definitions.specs.Plans.{Planned, matches, context, breaks, Settings, count_below}
use Rattle.grep_definitions.specs.Plans.{is_below, Kind, matched, in_context, all_matches}
use Rattle.grep_definitions.specs.Plans.{matches_up_to, touches, is_touched, is_free, has_room}
use Rattle.grep_definitions.specs.Plans.{selects_free, Selection, breaks_before, count_at}
use Rattle.grep_definitions.specs.Plans.{follows_selected, precedes_selected, report, report_end}
use Rattle.grep_definitions.specs.Plans.{report_lines}
use Rattle.grep_definitions.specs.Plans
use Rattle.std.proofs.Common.{◌≡◌, ℕ, ◌+◌, ◌-◌, ◌<◌, ◌≤◌, Bool, true, false, not, ◌&&◌, List, []}
use Rattle.std.proofs.Common.{◌∷◌, length, refl, sym, ◌∙◌, arith, ◌⊎◌, ⊎_elim, inl, inr, Option}
use Rattle.std.proofs.Common.{Some, None, if◌then◌else◌, ltb-false}
use Rattle.std.proofs.Math.Bool.{and-false}
use Rattle.std.proofs.lemmas.Bool.{cases_Bool, le-leb, and_parts, and_from, or_cases, or_left}
use Rattle.std.proofs.lemmas.Bool.{or_right}
use Rattle.std.proofs.lemmas.List.{length-take}
use Rattle.std.specs.Prelude.{nat_lt}
use Rattle.std.specs.List.{list_any}
use Rattle.grep_matcher.specs.Lines.{byte_of}
use Rattle.grep_matcher.specs.Meanings.{Meaning}
use Rattle.grep_lines.specs.Blocks.{block_start, block_end}
use Rattle.grep_report.specs.declared.sink_context.SinkContextKind.TheVariants.{After}
use Rattle.grep_definitions.specs.SearchLaws.{AreReportsInOrder, report_calls}
use Rattle.grep_definitions.proofs.BelowLemmas.{some_below-some, count_below-none, count_below-once}
use Rattle.grep_definitions.proofs.BelowLemmas.{count_below-either}
use Rattle.grep_definitions.proofs.RunLemmas.{begins_run, begins_run-either, is_inside-run}
use Rattle.grep_matcher.proofs.LineStartLemmas.{line_start-ascends, line_start-more, line_start-le}
use Rattle.grep_definitions.proofs.ReportOrderLemmas.{IsReported, in_order-joined, report_calls-broken}
use Rattle.grep_definitions.proofs.UnitLemmas.{unit-lines}
use Rattle.grep_definitions.proofs.SearchLawLemmas.{matches_in, matches-joined, kind-selected}
use Rattle.grep_definitions.proofs.SearchLawLemmas.{count_below-weaker, count_below-limited}
use Rattle.grep_definitions.specs.Plans.{report_surroundings}

module _ (k : Settings) (meaning : Meaning) (bytes : List ℕ) where
  abbrev selection : Selection
  selection = touched_lines k meaning bytes

  -- how many lines there are, where each starts, and its calls
  abbrev n : ℕ
  n = line_count k bytes

  abbrev at : ℕ → ℕ
  at = start k bytes

  abbrev T : ℕ → List Planned
  T = calls_at k bytes selection

  abbrev selected : ℕ → Bool
  selected = is_touched_selected k meaning bytes

  -- the lines that one match touches are one run
  abbrev touched_by : ℕ × ℕ → ℕ → Bool
  touched_by m i = nat_lt i n && touches k meaning bytes i m

  touched_by-run : (m : ℕ × ℕ) (i j : ℕ) → i < j → begins_run (touched_by m) i ≡ true
      → begins_run (touched_by m) j ≡ true → ⊥
  touched_by-run m =
      is_inside-run at n (block_start (byte_of k.line_terminator) bytes m)
      (block_end (byte_of k.line_terminator) bytes m)
      (line_start-le (byte_of k.line_terminator) bytes)

  -- the lines that some matches touch are no more runs than matches
  touched-runs : (found : List (ℕ × ℕ)) (m : ℕ)
      → count_below (begins_run (is_touched k meaning bytes found)) m ≤ length found
  touched-runs [] m =
      let none = count_below-none (begins_run (is_touched k meaning bytes [])) m
      (λ j. rw (and-false (nat_lt j n)) refl) in
      omega arith
  touched-runs (x ∷ found) m =
      omega (
        arith,
        count_below-either (begins_run (touched_by x))
            (begins_run (is_touched k meaning bytes found))
            (begins_run (is_touched k meaning bytes (x ∷ found))) m
            (begins_run-either (touched_by x) (is_touched k meaning bytes found)
            (is_touched k meaning bytes (x ∷ found)) either first second),
        count_below-once (begins_run (touched_by x)) m (touched_by-run x),
        touched-runs found m,
      )
    where
      either : (i : ℕ) → is_touched k meaning bytes (x ∷ found) i ≡ true
          → (touched_by x i ≡ true) ⊎ (is_touched k meaning bytes found i ≡ true)
      either i is =
          let parts = and_parts (nat_lt i n) _ is in
          ⊎_elim (λ one. inl (and_from (nat_lt i n) _ parts.0 one))
          (λ later. inr (and_from (nat_lt i n) _ parts.0 later))
          (or_cases (touches k meaning bytes i x) (list_any (touches k meaning bytes i) found)
          parts.1)

      first : (i : ℕ) → touched_by x i ≡ true → is_touched k meaning bytes (x ∷ found) i ≡ true
      first i is =
          let parts = and_parts (nat_lt i n) _ is in
          and_from (nat_lt i n) _ parts.0 (or_left (touches k meaning bytes i x) _ parts.1)

      second : (i : ℕ) → is_touched k meaning bytes found i ≡ true
          → is_touched k meaning bytes (x ∷ found) i ≡ true
      second i is =
          let parts = and_parts (nat_lt i n) _ is in
          and_from (nat_lt i n) _ parts.0 (or_right (touches k meaning bytes i x) _ parts.1)

  -- whether a unit begins at a line
  abbrev begins_unit : ℕ → Bool
  begins_unit i = selected i && not (continues k bytes selection i)

  -- there are at most as many units as the limit has
  units-few : (limit m : ℕ) → has_room k limit ≡ false → count_below begins_unit m ≤ limit
  units-few limit m shut = go (selects_free k)
    where
      free : ℕ → Bool
      free i = is_free k meaning bytes i && has_room k (count_below (is_free k meaning bytes) i)

      held : ℕ → Bool
      held = is_touched k meaning bytes (matches_up_to meaning bytes k.max_matches)

      few : (o : Option ℕ) → is_below limit o ≡ false → length (matches_up_to meaning bytes o)
          ≤ limit
      few None shut = cc
      few (Some x) shut = omega (
        arith,
        ltb-false limit x shut,
        length-take x (all_matches meaning bytes),
      )

      go : (b : Bool) → count_below (λ i. (if b then free i else held i)
          && not (not b && nat_lt 0 i && (if b then free (i - 1) else held (i - 1)))) m ≤ limit
      go true = omega (
        arith,
        count_below-weaker (λ i. free i && not false) free m
            (λ j yes. (and_parts (free j) _ yes).0),
        count_below-limited k (is_free k meaning bytes) limit m shut,
      )
      go false = omega (
        arith,
        touched-runs (matches_up_to meaning bytes k.max_matches) m,
        few _ shut,
      )

  -- the calls of a line, with its break or without
  abbrev broken : ℕ → Bool → List Planned
  broken i b =
      if b
      then (planned breaks (count_at k bytes selection i (Plans.kind k bytes selection i)))
      ∷ report k bytes selection i (Plans.kind k bytes selection i)
      else report k bytes selection i (Plans.kind k bytes selection i)

  -- a selected line that is in the unit of the line before it has no report
  unreported : (i : ℕ) → selected i ≡ true → continues k bytes selection i ≡ true
      → report_calls (T i) ≡ []
  unreported i here goes_on = grind arith

  -- a line has one report at most, of its bytes or of those of the unit that begins there
  reported-line : (i : ℕ) → i < n → (report_calls (T i) ≡ []) ⊎ IsReported T at i
  reported-line i inside =
      go (Plans.kind k bytes selection i) refl
      (report_calls-broken (breaks_before k bytes selection i) _ _)
    where
      above : at i < at (i + 1)
      above = line_start-ascends (byte_of k.line_terminator) bytes i inside

      go : (o : Option Kind) → Plans.kind k bytes selection i ≡ o
          → report_calls (T i) ≡ report_calls (report k bytes selection i o)
          → (report_calls (T i) ≡ []) ⊎ IsReported T at i
      go None kind is = inl is
      go (Some matched) kind is =
          let here = kind-selected (selected i) (follows_selected k bytes selection i)
          (precedes_selected k bytes selection i) k.passthru kind in
          ⊎_elim
          (λ (goes_on : continues k bytes selection i ≡ true). inl (unreported i here goes_on))
          (λ (first : continues k bytes selection i ≡ false).
          let unit = unit-lines k meaning bytes i inside here in
          inr (record {
            call = matches (number k bytes i) (at i) (report_lines k bytes selection i)
                (report_surroundings k bytes selection i);
            next = report_end k bytes selection i;
            reports = is ∙ (rw first refl);
            later = unit.later;
            above = omega (
              arith,
              above,
              line_start-le (byte_of k.line_terminator) bytes (i + 1)
                  (report_end k bytes selection i) (omega arith),
            );
            from = refl;
            to = unit.size;
            alone = λ j low high. unreported j (unit.hits j low high).0 (unit.hits j low high).1;
          })) (cases_Bool (continues k bytes selection i))
      go (Some (in_context c)) kind is = inr (record {
        call = context c (number k bytes i) (at i) (line k bytes i);
        next = i + 1;
        reports = is;
        later = omega arith;
        above = above;
        from = refl;
        to = sym (line_start-more (byte_of k.line_terminator) bytes i inside);
        alone = λ j low high. absurd (omega arith);
      })

  -- the reports ascend
  pub in_order-across : AreReportsInOrder (report_calls (across_plan k meaning bytes).calls)
  in_order-across = in_order-joined T at n (line_start-ascends (byte_of k.line_terminator) bytes)
      reported-line

  -- a line after a selected one that isn't selected itself is reported as the line after it
  pub calls_at-follows : (i j : ℕ) → selected i ≡ false → selected j ≡ true → j < i → i - j
      ≤ k.after_context
      → T i ≡ planned (context After (number k bytes i) (at i) (line k bytes i)) (at (i + 1)) ∷ []
  calls_at-follows i j misses hit less close =
      let near = le-leb (i - j) k.after_context close in
      let follows : follows_selected k bytes selection i
      ≡ true = some_below-some _ i j less (rw (near, hit) refl) in
      let kind : Plans.kind k bytes selection i ≡ Some (in_context After) =
      rw (misses, follows) refl in
      rw (kind, and-false (nat_lt 0 (k.after_context + k.before_context))) refl

  -- a match is reported at a line only if a unit begins there
  matches-report : (i : ℕ) (kind : Option Kind) → Plans.kind k bytes selection i ≡ kind
      → matches_in (report k bytes selection i kind) ≤ (if begins_unit i then 1 else 0)
  matches-report i None is = omega arith
  matches-report i (Some matched) is = grind (arith, kind-selected, cases_Bool)
  matches-report i (Some (in_context c)) is = omega arith

  matches-line : (i : ℕ) → matches_in (T i) ≤ (if begins_unit i then 1 else 0)
  matches-line i = go (breaks_before k bytes selection i)
    where
      go : (b : Bool) → matches_in (broken i b) ≤ (if begins_unit i then 1 else 0)
      go true = matches-report i (Plans.kind k bytes selection i) refl
      go false = matches-report i (Plans.kind k bytes selection i) refl

  -- the calls report no more matches than the limit has
  pub matches-across : (limit : ℕ) → has_room k limit ≡ false
      → matches_in (across_plan k meaning bytes).calls ≤ limit
  matches-across limit is = omega (
    arith,
    matches-joined T begins_unit matches-line n,
    units-few limit n is,
  )
