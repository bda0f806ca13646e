-- What a search by line reports under `passthru`: all lines.
use Rattle.std.proofs.Common.{◌≡◌, ℕ, zero, suc, ◌+◌, ◌<◌, Bool, true, false, ◌&&◌, ◌||◌}
use Rattle.std.proofs.Common.{List, [], ◌∷◌, map, Option, Some, None, refl, sym, ap}
use Rattle.std.proofs.Common.{◌∙◌, arith, if◌then◌else◌}
use Rattle.std.proofs.lemmas.Bool.{false≢true}
use Rattle.std.specs.Prelude.{filter}
use Rattle.std.specs.List.{range_with_len}
use Rattle.std.specs.Option.{option_map}
use Rattle.grep_matcher.specs.Lines.{byte_of, lines}
use Rattle.grep_matcher.specs.Meanings.{Meaning}
use Rattle.grep_report.specs.SinkReports.{no_surroundings}
use Rattle.grep_report.specs.declared.sink_context.SinkContextKind.{SinkContextKind}
use Rattle.grep_report.specs.declared.sink_context.SinkContextKind.TheVariants.{Before, After}
use Rattle.grep_report.specs.declared.sink_context.SinkContextKind.TheVariants.{Other}
use Rattle.grep_definitions.specs.Plans.{at_most, breaks_before, Call, calls_at, context, count_at}
use Rattle.grep_definitions.specs.Plans.{end_by_stop, fills_limit, first_below, follows_selected}
use Rattle.grep_definitions.specs.Plans.{has_room, in_context, is_across, joined_from, Kind, kind}
use Rattle.grep_definitions.specs.Plans.{line, line_count, matched, matches, number, Plan, Planned}
use Rattle.grep_definitions.specs.Plans.{precedes_selected, report, reported_bytes, reports_end}
use Rattle.grep_definitions.specs.Plans.{search_plan, selected_lines, Selection, Settings, start}
use Rattle.grep_definitions.specs.SearchLaws.{calls_of, is_match, is_matched, is_report}
use Rattle.grep_definitions.specs.SearchLaws.{report_calls}
use Rattle.grep_definitions.proofs.BelowLemmas.{joined_from-equal, map-joined}
use Rattle.grep_definitions.proofs.LimitLemmas.{by_stop-none}
use Rattle.grep_definitions.proofs.LineSliceLemmas.{line-report}
use Rattle.grep_definitions.proofs.ReportOrderLemmas.{report_calls-broken}
use Rattle.grep_definitions.proofs.SearchModeLemmas.{plan-by_line}
use Rattle.grep_searcher.specs.HitLines.{is_hit, IsUnlimited}
use Rattle.grep_searcher.specs.PassedLines.{LinesArePassed, PassedLinesHit}
use Rattle.grep_searcher.proofs.HitLineLemmas.{hits-are_matched}
use Rattle.grep_searcher.proofs.LineFilterLemmas.{map-indices, map-twice}
use Rattle.grep_searcher.proofs.UnitCallLemmas.{filter-joined}

-- one item for each number
joined-ones : {X : Type 0} (f : ℕ → X) (i n : ℕ) → joined_from (λ j. f j ∷ []) i n
    ≡ map f (range_with_len i n)
joined-ones f i zero = refl
joined-ones f i (suc n) = ap (λ xs. f i ∷ xs) (joined-ones f (i + 1) n)

-- how a line is reported under `passthru`: as a match if it is one, and else near one or not
passed-kind : (a b t c d : Bool) → d ≡ true → (P : Bool → Option Kind → Type 0)
    → P true (Some matched) → P false (Some (in_context After))
    → P false (Some (in_context Before)) → P false (Some (in_context Other))
    → P (a || (b && t)) (if a then Some matched
    else (if b then Some (if t then matched else in_context After)
    else (if c then Some (in_context Before)
    else (if d then Some (in_context Other) else None))))
passed-kind true b t c d is P hit after before other = hit
passed-kind false true true c d is P hit after before other = hit
passed-kind false true false c d is P hit after before other = after
passed-kind false false t true d is P hit after before other = before
passed-kind false false t false true is P hit after before other = other
passed-kind false false t false false is P hit after before other = absurd (false≢true is)

module _ (k : Settings) (meaning : Meaning) (bytes : List ℕ) (passes : k.passthru ≡ true)
    (by : IsUnlimited k) where
  abbrev n : ℕ
  n = line_count k bytes

  abbrev selection : Selection
  selection = selected_lines k meaning bytes

  -- the one report of a line, and whether it is a match
  record IsPassed (i : ℕ) (hit : Bool) (how : Option Kind) : Type 0 where
    call : Call
    reports : report_calls (report k bytes selection i how) ≡ call ∷ []
    lines : reported_bytes call ≡ line k bytes i
    is : is_match call ≡ hit

  in_context-passed : (i : ℕ) (how : SinkContextKind) → IsPassed i false (Some (in_context how))
  in_context-passed i how = record {
    call = context how (number k bytes i) (start k bytes i) (line k bytes i);
    reports = refl;
    lines = refl;
    is = refl;
  }

  passed : (i : ℕ) → IsPassed i (is_matched k meaning bytes i) (kind k bytes selection i)
  passed i = passed-kind (selection.selected i) (follows_selected k bytes selection i)
      (selection.trailing i) (precedes_selected k bytes selection i) k.passthru passes (IsPassed i)
      (record {
        call = matches (number k bytes i) (start k bytes i) (line k bytes i) no_surroundings;
        reports = ap report_calls (line-report k bytes meaning i);
        lines = refl;
        is = refl;
      }) (in_context-passed i After) (in_context-passed i Before) (in_context-passed i Other)

  -- each line may be reported
  end-is : reports_end k meaning bytes ≡ n
  end-is =
      ap (λ b. at_most (if b then None else (if has_room k 0
      then option_map (λ m. suc (m + k.after_context)) (first_below (fills_limit k meaning bytes) n)
      else Some 0)) (at_most (end_by_stop k meaning bytes) n)) passes
      ∙ ap (λ stop. at_most stop n)
      (by_stop-none k meaning bytes (λ some. ap (λ b. b && some) by.unstopped))

  -- what is made of the reports is what is made of the lines
  made-of : {X : Type 0} (g : Call → X) (h : ℕ → X)
      → ((i : ℕ) (inside : i < n) (call : Call) → reported_bytes call ≡ line k bytes i
      → is_match call ≡ is_matched k meaning bytes i → g call ≡ h i)
      → is_across k meaning ≡ false
      → map g (report_calls (search_plan k meaning bytes).calls) ≡ map h (range_with_len 0 n)
  made-of g h each by_line =
      let T = calls_at k bytes selection in
      ap (λ (plan : Plan). map g (report_calls plan.calls)) (plan-by_line k meaning bytes by_line)
      ∙ ap (λ end. map g (report_calls (joined_from T 0 end))) end-is
      ∙ ap (λ calls. map g (filter is_report calls))
      (map-joined (λ (planned : Planned). planned.call) T 0 n)
      ∙ ap (map g) (filter-joined is_report (λ j. calls_of (T j)) 0 n)
      ∙ map-joined g (λ j. report_calls (T j)) 0 n
      ∙ joined_from-equal (λ j. map g (report_calls (T j))) (λ j. h j ∷ []) 0 n (λ j low high.
      let one = passed j in
      ap (map g) (report_calls-broken (breaks_before k bytes selection j)
      (count_at k bytes selection j (kind k bytes selection j))
      (report k bytes selection j (kind k bytes selection j)) ∙ one.reports)
      ∙ ap (λ x. x ∷ []) (each j (omega arith) one.call one.lines one.is))
      ∙ joined-ones h 0 n

pub lines-are_passed : LinesArePassed
lines-are_passed k meaning bytes by_line passes by =
    made-of k meaning bytes passes by reported_bytes (line k bytes)
    (λ i inside call lines is. lines) by_line
    ∙ map-indices [] (lines (byte_of k.line_terminator) bytes)

pub passed_lines-hit : PassedLinesHit
passed_lines-hit k meaning bytes by_line passes by =
    made-of k meaning bytes passes by is_match (λ i. is_hit k meaning (line k bytes i))
    (λ i inside call lines is. is ∙ hits-are_matched k meaning bytes i by inside) by_line
    ∙ sym (map-twice (is_hit k meaning) (line k bytes) (range_with_len 0 (line_count k bytes)))
    ∙ ap (map (is_hit k meaning)) (map-indices [] (lines (byte_of k.line_terminator) bytes))
