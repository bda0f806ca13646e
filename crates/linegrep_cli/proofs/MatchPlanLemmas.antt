-- The calls of a search by line around which no line is reported: `begin`, and the lines that hit.
use Rattle.std.proofs.Common.{◌≡◌, ◌∙◌, ℕ, ◌+◌, ◌-◌, ◌<◌, Bool, true, false, List, [], ◌∷◌}
use Rattle.std.proofs.Common.{None, Some, ap, arith, if◌then◌else◌, refl, sym}
use Rattle.std.proofs.lemmas.Bool.{lt-leb, ltb-true}
use Rattle.std.proofs.lemmas.List.Elements.{All-cons, All-map, All-nil, All-weaker}
use Rattle.std.specs.Prelude.{◌&&◌, All, nat_le, nat_lt}
use Rattle.grep_definitions.proofs.BelowLemmas.{some_below-none}
use Rattle.grep_definitions.proofs.ListLemmas.{All-joined_from, filter-all}
use Rattle.grep_definitions.proofs.SearchModeLemmas.{plan-by_line}
use Rattle.grep_searcher.proofs.LineFilterLemmas.{lines-are_filtered}
use Rattle.grep_searcher.specs.HitLines.{IsFilter, hit_matches}
use Rattle.grep_searcher.specs.Meanings.{Meaning}
use Rattle.grep_searcher.specs.Plans.{Call, Plan, Planned, Selection, Settings, begins}
use Rattle.grep_searcher.specs.Plans.{breaks, breaks_before, calls_at, count_at}
use Rattle.grep_searcher.specs.Plans.{follows_selected, in_context, is_across}
use Rattle.grep_searcher.specs.Plans.{is_selected, joined_from, kind, line_count, matched}
use Rattle.grep_searcher.specs.Plans.{planned, precedes_selected, report, reports_end, search_plan}
use Rattle.grep_searcher.specs.Plans.{selected_lines}
use Rattle.grep_searcher.specs.declared.SinkContextKind.TheVariants.{After, Before, Other}
use Rattle.grep_searcher.specs.SearchLaws.{calls_of, is_match, match_calls}

-- no line is reported around a match, and none that doesn't match
pub record ReportsMatches (settings : Settings) : Type 0 where
  pub filter : IsFilter settings
  pub after : settings.after_context ≡ 0
  pub before : settings.before_context ≡ 0
  pub few : settings.passthru ≡ false

-- a planned call reports a match. If the search ends there, it has seen no binary byte
abbrev pub IsMatch : Planned → Type 0
IsMatch one = (is_match one.call ≡ true) × (one.if_false.binary ≡ None)

-- a plan is `begin` and some matches
pub record IsMatchPlan (plan : Plan) (found : List Call) : Type 0 where
  pub later : List Planned
  pub calls : plan.calls ≡ planned begins 0 ∷ later
  pub matched : All IsMatch later
  pub found_is : calls_of later ≡ found
  pub binary : plan.finish.binary ≡ None

module _ (k : Settings) (meaning : Meaning) (bytes : List ℕ) (alone : ReportsMatches k) where
  abbrev selection : Selection
  selection = selected_lines k meaning bytes

  no-after : (i : ℕ) → follows_selected k bytes selection i ≡ false
  no-after i = some_below-none _ i (λ j less.
      let far : nat_le (i - j) k.after_context ≡ false =
      lt-leb (i - j) k.after_context (omega (arith, less, alone.after)) in
      rw far refl)

  no-before : (i : ℕ) → precedes_selected k bytes selection i ≡ false
  no-before i = some_below-none _ (line_count k bytes) (λ j less. go j (nat_lt i j) refl)
    where
      go : (j : ℕ) (b : Bool) → nat_lt i j ≡ b
          → ((b && nat_le (j - i) k.before_context) && selection.selected j) ≡ false
      go j true is =
          let over : i < j = ltb-true i j is in
          let far : nat_le (j - i) k.before_context ≡ false =
          lt-leb (j - i) k.before_context (omega (arith, over, alone.before)) in
          rw far refl
      go j false is = refl

  no-break : (i : ℕ) → breaks_before k bytes selection i ≡ false
  no-break i =
      let none : nat_lt 0 (k.after_context + k.before_context) ≡ false =
      rw (alone.after, alone.before) refl in
      rw none refl

  -- a line that isn't selected isn't reported
  report-matched : (i : ℕ) (follows precedes passthru selected trailing : Bool) → follows ≡ false
      → precedes ≡ false → passthru ≡ false
      → All IsMatch (report k bytes selection i (if selected then Some matched
      else (if follows then Some (if trailing then matched else in_context After)
      else (if precedes then Some (in_context Before)
      else (if passthru then Some (in_context Other) else None)))))
  report-matched i true precedes passthru selected trailing off out plain = absurd cc
  report-matched i false true passthru selected trailing off out plain = absurd cc
  report-matched i false false true selected trailing off out plain = absurd cc
  report-matched i false false false true trailing off out plain =
      All-cons IsMatch _ [] (refl, refl) (All-nil IsMatch)
  report-matched i false false false false trailing off out plain = All-nil IsMatch

  calls-matched : (i : ℕ) → All IsMatch (calls_at k bytes selection i)
  calls-matched i = go (breaks_before k bytes selection i) (no-break i)
    where
      go : (b : Bool) → b ≡ false
          → All IsMatch (if b
          then planned breaks (count_at k bytes selection i (kind k bytes selection i))
          ∷ report k bytes selection i (kind k bytes selection i)
          else report k bytes selection i (kind k bytes selection i))
      go true is = absurd cc
      go false is =
          report-matched i (follows_selected k bytes selection i)
          (precedes_selected k bytes selection i) k.passthru (is_selected k meaning bytes i)
          (selection.trailing i) (no-after i) (no-before i) alone.few

  abbrev later : List Planned
  later = joined_from (calls_at k bytes selection) 0 (reports_end k meaning bytes)

  all-matched : All IsMatch later
  all-matched = All-joined_from IsMatch (calls_at k bytes selection) 0 (reports_end k meaning bytes)
      (λ j low high. calls-matched j)

  pub match-plan : is_across k meaning ≡ false
      → IsMatchPlan (search_plan k meaning bytes) (hit_matches k meaning bytes)
  match-plan by_line =
      let plan = plan-by_line k meaning bytes by_line in record {
        later = later;
        calls = ap (λ (p : Plan). p.calls) plan;
        matched = all-matched;
        found_is =
            sym (filter-all is_match (calls_of later)
            (All-map (λ call. is_match call ≡ true) (λ (one : Planned). one.call) later
            (All-weaker IsMatch (λ one. is_match one.call ≡ true) (λ one is. is.0) later all-matched)))
            ∙ (sym (ap (λ (p : Plan). match_calls p.calls) plan)
            ∙ lines-are_filtered k meaning bytes by_line alone.filter);
        binary = ap (λ (p : Plan). p.finish.binary) plan;
      }
