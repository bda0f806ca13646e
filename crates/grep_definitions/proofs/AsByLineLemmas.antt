-- What a search across lines under inversion reports, against a search by line that selects the
-- same lines.
use Rattle.grep_definitions.specs.Plans.{across_plan, can_break, is_touched_selected, line_plan}
use Rattle.grep_definitions.specs.Plans.{reports_end, selected_lines, touched_lines, planned}
use Rattle.grep_definitions.specs.Plans.{begins, matches, context, breaks, Settings, some_below}
use Rattle.grep_definitions.specs.Plans.{first_below, joined_from, Kind, matched, in_context}
use Rattle.grep_definitions.specs.Plans.{selects_free, Selection, breaks_before, calls_at}
use Rattle.grep_definitions.specs.Plans.{continues, count_at, follows_selected, is_reported}
use Rattle.grep_definitions.specs.Plans.{is_selected, is_trailing, line_count, next_report_end}
use Rattle.grep_definitions.specs.Plans.{number, precedes_selected, report, report_end}
use Rattle.grep_definitions.specs.Plans.{report_lines, start}
use Rattle.grep_definitions.specs.Plans
use Rattle.std.proofs.Common.{◌≡◌, ℕ, ◌+◌, ◌-◌, ◌<◌, Bool, true, false, not, ◌&&◌, List, [], ◌∷◌}
use Rattle.std.proofs.Common.{refl, sym, ap, ap₂, ◌∙◌, arith, Option, Some, None, if◌then◌else◌}
use Rattle.std.specs.Prelude.{nat_lt, nat_le, is_some, map, slice_range}
use Rattle.std.specs.Option.{option_map, unwrap_or}
use Rattle.grep_matcher.specs.Meanings.{Meaning}
use Rattle.grep_report.specs.declared.sink_context.SinkContextKind.TheVariants.{Before, After}
use Rattle.grep_report.specs.declared.sink_context.SinkContextKind.TheVariants.{Other}
use Rattle.grep_definitions.proofs.BelowLemmas.{joined_from-equal, map-joined}
use Rattle.grep_definitions.proofs.FirstLineLemmas.{some_below-same, first_below-same}
use Rattle.grep_definitions.proofs.LineSliceLemmas.{line-report, slice-line}
use Rattle.grep_report.specs.SinkReports.{no_surroundings}
use Rattle.grep_definitions.specs.Plans.{Planned, report_surroundings}
use Rattle.grep_definitions.specs.AcrossLaws.{without_surroundings}

module _ (k : Settings) (meaning other : Meaning) (bytes : List ℕ) (inverted : selects_free k
    ≡ true) (same : (i : ℕ) → is_touched_selected k meaning bytes i ≡ is_selected k other bytes i)
    (whole : reports_end k other bytes ≡ line_count k bytes)
    (early : (i : ℕ) → is_trailing k other bytes i ≡ false) where
  abbrev selection : Selection
  selection = touched_lines k meaning bytes

  abbrev n : ℕ
  n = line_count k bytes

  abbrev at : ℕ → ℕ
  at = start k bytes

  abbrev selected : ℕ → Bool
  selected = is_touched_selected k meaning bytes

  -- a unit is one line
  unit_end-next : (i : ℕ) → report_end k bytes selection i ≡ i + 1
  unit_end-next i =
      ap (λ b. if not b then unwrap_or (first_below (λ j. nat_lt i j && not (selected j)) n) n
      else i + 1) inverted

  unit-line : (i : ℕ) → i < n → report_lines k bytes selection i ≡ Plans.line k bytes i
  unit-line i inside = ap (λ e. slice_range bytes (at i) (at e)) (unit_end-next i)
      ∙ slice-line k bytes i

  alone : (i : ℕ) → continues k bytes selection i ≡ false
  alone i = ap (λ b. not b && nat_lt 0 i && selected (i - 1)) inverted

  -- so the lines are of the same kinds
  follows : (i : ℕ) → follows_selected k bytes selection i
      ≡ follows_selected k bytes (selected_lines k other bytes) i
  follows i =
      some_below-same (λ j. nat_le (i - j) k.after_context && selected j)
      (λ j. nat_le (i - j) k.after_context && is_selected k other bytes j) i
      (λ j below. ap (λ b. nat_le (i - j) k.after_context && b) (same j))

  precedes : (i : ℕ) → precedes_selected k bytes selection i
      ≡ precedes_selected k bytes (selected_lines k other bytes) i
  precedes i =
      some_below-same (λ j. nat_lt i j && nat_le (j - i) k.before_context && selected j)
      (λ j. nat_lt i j && nat_le (j - i) k.before_context && is_selected k other bytes j) n
      (λ j below. ap (λ b. nat_lt i j && nat_le (j - i) k.before_context && b) (same j))

  kind : (i : ℕ) → Plans.kind k bytes selection i
      ≡ Plans.kind k bytes (selected_lines k other bytes) i
  kind i = rw (same i, follows i, precedes i) (ap (λ (b : Bool). if is_selected k other bytes i
      then Some
      matched
      else (if follows_selected k bytes (selected_lines k other bytes) i
      then Some (if b then matched else in_context After)
      else (if precedes_selected k bytes (selected_lines k other bytes) i
      then Some (in_context Before)
      else (if k.passthru then Some (in_context Other) else None)))) (sym (early i)))

  reported : (i : ℕ) → is_reported k bytes selection i
      ≡ is_reported k bytes (selected_lines k other bytes) i
  reported i = ap₂ (λ m x. nat_lt i m && is_some x) (sym whole) (kind i)

  broken : (i : ℕ) → breaks_before k bytes selection i
      ≡ breaks_before k bytes (selected_lines k other bytes) i
  broken i =
      ap (λ x. nat_lt 0 (k.after_context + k.before_context) && can_break x
      && not (is_reported k bytes selection (i - 1))
      && some_below (is_reported k bytes selection) i) (kind i)
      ∙ ap₂ (λ a b. nat_lt 0 (k.after_context + k.before_context)
      && can_break (Plans.kind k bytes (selected_lines k other bytes) i)
      && not a && b) (reported (i - 1)) (some_below-same (is_reported k bytes selection)
      (is_reported k bytes (selected_lines k other bytes)) i (λ j below. reported j))

  -- and their counts are the same
  through : (i : ℕ) → next_report_end k bytes selection i
      ≡ next_report_end k bytes (selected_lines k other bytes) i
  through i =
      ap (λ found. unwrap_or (option_map (report_end k bytes selection) found) (i + 1))
      (first_below-same (λ j. nat_lt i j && selected j) (λ j. nat_lt i j
      && is_selected k other bytes j) n (λ j below. ap (λ b. nat_lt i j && b) (same j)))
      ∙ go (first_below (λ j. nat_lt i j && is_selected k other bytes j) n)
    where
      go : (found : Option ℕ) → unwrap_or (option_map (report_end k bytes selection) found) (i + 1)
          ≡ unwrap_or (option_map (λ j. j + 1) found) (i + 1)
      go None = refl
      go (Some j) = unit_end-next j

  ends : (i : ℕ) (x : Option Kind) → count_at k bytes selection i x
      ≡ count_at k bytes (selected_lines k other bytes) i x
  ends i None = refl
  ends i (Some matched) = ap at (unit_end-next i)
  ends i (Some (in_context Before)) = ap at (through i)
  ends i (Some (in_context After)) = refl
  ends i (Some (in_context Other)) = refl

  -- a call with nothing around its match
  abbrev bare : Planned → Planned
  bare call = record call { call = without_surroundings call.call }

  reports : (i : ℕ) (x : Option Kind) → i < n → map bare (report k bytes selection i x)
      ≡ report k bytes (selected_lines k other bytes) i x
  reports i None inside = refl
  reports i (Some matched) inside =
      ap (λ b. map bare (if b then []
      else planned (matches (number k bytes i) (at i) (report_lines k bytes selection i)
      (report_surroundings k bytes selection i)) (at (report_end k bytes selection i)) ∷ []))
      (alone i)
      ∙ ap₂ (λ line e. (planned (matches (number k bytes i) (at i) line no_surroundings) (at e)) ∷ [])
      (unit-line i inside) (unit_end-next i) ∙ sym (line-report k bytes other i)
  reports i (Some (in_context c)) inside =
      ap (λ e. planned (context c (number k bytes i) (at i) (Plans.line k bytes i)) e ∷ [])
      (ends i (Some (in_context c)))

  broken-bare : (b : Bool) (end : ℕ) (rest : List Planned)
      → map bare (if b then planned breaks end ∷ rest else rest)
      ≡ (if b then planned breaks end ∷ map bare rest else map bare rest)
  broken-bare true end rest = refl
  broken-bare false end rest = refl

  calls : (i : ℕ) → i < n → map bare (calls_at k bytes selection i)
      ≡ calls_at k bytes (selected_lines k other bytes) i
  calls i inside =
      broken-bare (breaks_before k bytes selection i)
      (count_at k bytes selection i (Plans.kind k bytes selection i))
      (report k bytes selection i (Plans.kind k bytes selection i))
      ∙ ap₂ (λ b x. if b then (planned breaks (count_at k bytes selection i x))
      ∷ map bare (report k bytes selection i x) else map bare (report k bytes selection i x))
      (broken i) (kind i)
      ∙ ap₂ (λ e rest. if breaks_before k bytes (selected_lines k other bytes) i
      then (planned breaks e)
      ∷ rest else rest) (ends i (Plans.kind k bytes (selected_lines k other bytes) i))
      (reports i (Plans.kind k bytes (selected_lines k other bytes) i) inside)

  pub calls-same : map bare (across_plan k meaning bytes).calls ≡ (line_plan k other bytes).calls
  calls-same =
      ap (λ rest. planned begins 0 ∷ rest) (map-joined bare (calls_at k bytes selection) 0 n
      ∙ joined_from-equal (λ j. map bare (calls_at k bytes selection j))
      (calls_at k bytes (selected_lines k other bytes)) 0 n (λ j low high. calls j (omega arith))
      ∙ ap (joined_from (calls_at k bytes (selected_lines k other bytes)) 0) (sym whole))
