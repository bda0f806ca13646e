-- The calls of lines near matches, against the definitions.
use Rattle.std.proofs.Common.{◌≡◌, ℕ, ◌+◌, ◌-◌, ◌<◌, ◌≤◌, Bool, true, false, not, ◌&&◌, ◌||◌, List}
use Rattle.std.proofs.Common.{[], length, refl, ◌∙◌, ap, ⊎_elim, Some, None, if◌then◌else◌}
use Rattle.std.proofs.Math.Bool.{and-false}
use Rattle.std.proofs.lemmas.Bool.{lt-leb, le-leb, cases_lt}
use Rattle.std.specs.Prelude.{nat_lt, nat_le}
use Rattle.grep_matcher.specs.Lines.{byte_of, lines}
use Rattle.grep_matcher.specs.Meanings.{Meaning}
use Rattle.grep_report.specs.declared.sink_context.SinkContextKind.TheVariants.{Before, After}
use Rattle.grep_report.specs.declared.sink_context.SinkContextKind.TheVariants.{Other}
use Rattle.grep_definitions.specs.Plans.{calls_at, reports_end, selected_lines, Settings}
use Rattle.grep_definitions.specs.Plans.{some_below, matched, in_context, Selection}
use Rattle.grep_definitions.specs.Plans.{follows_selected, number}
use Rattle.grep_definitions.specs.Plans
use Rattle.grep_definitions.proofs.LineSliceLemmas.{slice-line}
use Rattle.grep_definitions.specs.LineWalks.{IsNear}
use Rattle.grep_definitions.specs.LineCalls.{after_calls, before_calls, selected_calls}
use Rattle.grep_definitions.specs.LineCalls.{context_calls, breaks_near}
use Rattle.grep_definitions.specs.SearchLaws.{number_of}
use Rattle.grep_definitions.proofs.SelectionLemmas
use Rattle.grep_report.specs.SinkReports.{no_surroundings}

module _ (k : Settings) (meaning : Meaning) (bytes : List ℕ) where
  abbrev selection : Selection
  selection = selected_lines k meaning bytes

  abbrev A : ℕ
  A = k.after_context

  abbrev B : ℕ
  B = k.before_context

  abbrev reportable : ℕ
  reportable = reports_end k meaning bytes

  abbrev all_lines : List (List ℕ)
  all_lines = lines (byte_of k.line_terminator) bytes

  abbrev n : ℕ
  n = length all_lines

  abbrev is_selected : ℕ → Bool
  is_selected = Plans.is_selected k meaning bytes

  abbrev is_trailing : ℕ → Bool
  is_trailing = Plans.is_trailing k meaning bytes

  abbrev is_reported : ℕ → Bool
  is_reported = Plans.is_reported k bytes selection

  -- if no line from the i-th on is selected, the lines that were passed have no calls
  pub calls_at-done : {v i left : ℕ} → IsNear k bytes selection v i left
      → ((q : ℕ) → i ≤ q → q < n → is_selected q ≡ false)
      → (j : ℕ) → v ≤ j → j < i → calls_at k bytes selection j ≡ []
  calls_at-done {v} {i} {left} near silent j low high =
      let kind : Plans.kind k bytes selection j ≡ None =
      SelectionLemmas.kind-done near silent j low high in
      rw (kind, and-false (nat_lt 0 (A + B))) refl

  -- a line follows a selected one just if some of the context is left
  pub follows-selected : {v i left : ℕ} → IsNear k bytes selection v i left
      → follows_selected k bytes selection i ≡ nat_lt 0 left
  follows-selected near = SelectionLemmas.follows-here near

  module _ {v i left : ℕ} (near : IsNear k bytes selection v i left) (inside : i < n) (has : i
      < reportable) where
    -- a line after a selected one
    pub calls_at-after : (start end : ℕ) (line : List ℕ) → is_selected i ≡ false → 0 < left
        → number k bytes i
        ≡ number_of k i → Plans.start k bytes i ≡ start → Plans.start k bytes (i + 1) ≡ end
        → Plans.line k bytes i ≡ line → calls_at k bytes selection i
        ≡ after_calls k (is_trailing i) v i start end line no_surroundings
    calls_at-after start end line misses some is_number is_start is_end is_line =
        go (is_trailing i) refl
      where
        kind : Plans.kind k bytes selection i
            ≡ Some (if is_trailing i then matched else in_context After)
        kind = SelectionLemmas.kind-after near misses some

        gap : (nat_lt 0 (A + B) && true && not (is_reported (i - 1)) && some_below is_reported i)
            ≡ (nat_lt 0 A && breaks_near k v i i)
        gap = SelectionLemmas.gap-after near some

        go : (b : Bool) → is_trailing i ≡ b → calls_at k bytes selection i
            ≡ after_calls k b v i start end line no_surroundings
        go true is =
            let as_match = kind ∙ ap (λ b. Some (if b then matched else in_context After)) is in
            rw (as_match, gap, slice-line k bytes i, is_number, is_end, is_start, is_line) refl
        go false is =
            let as_context = kind ∙ ap (λ b. Some (if b then matched else in_context After)) is in
            rw (as_context, and-false (nat_lt 0 (A + B)), is_number, is_end, is_start, is_line) refl

    -- a line that is reported under passthru alone
    pub calls_at-other : (start end : ℕ) (line : List ℕ) → is_selected i ≡ false → left ≡ 0
        → k.passthru ≡ true → k.before_context ≡ 0
        → number k bytes i ≡ number_of k i → Plans.start k bytes i ≡ start
        → Plans.start k bytes (i + 1) ≡ end → Plans.line k bytes i ≡ line
        → calls_at k bytes selection i ≡ context_calls Other (number_of k i) start end line
    calls_at-other start end line misses empty bare none is_number is_start is_end is_line =
        let kind : Plans.kind k bytes selection i ≡ Some (in_context Other) =
        SelectionLemmas.kind-other near misses empty bare none in
        rw (kind, and-false (nat_lt 0 (A + B)), is_number, is_end, is_start, is_line) refl

    pub IsNear-missed : (k.passthru ≡ true → k.before_context ≡ 0) → is_selected i ≡ false
        → IsNear k bytes selection (if nat_lt 0 left || k.passthru then i + 1 else v) (i + 1)
        (left - 1)
    IsNear-missed bare = SelectionLemmas.IsNear-missed near bare has

    module _ (hit : is_selected i ≡ true) where
      pub IsNear-hit : IsNear k bytes selection (i + 1) (i + 1) A
      IsNear-hit = SelectionLemmas.IsNear-hit k bytes selection i has hit

      -- a passed line's calls
      pub calls_at-passed : (j start end : ℕ) (line : List ℕ) → v ≤ j → j < i
          → Plans.start k bytes j ≡ start
          → Plans.start k bytes (i + 1) ≡ end → Plans.line k bytes j ≡ line
          → calls_at k bytes selection j ≡ before_calls k v j i (number k bytes j) start end line
      calls_at-passed j start end line low less is_start is_end is_line =
          ⊎_elim far close (cases_lt B (i - j))
        where
          is_kind : Plans.kind k bytes selection j
              ≡ (if nat_le (i - j) B then Some (in_context Before) else None)
          is_kind = SelectionLemmas.kind-passed near inside has hit j low less

          far : B < i - j → calls_at k bytes selection j ≡ before_calls k v j i (number k bytes j)
              start end line
          far out =
              let test = lt-leb (i - j) B out in
              let kind : Plans.kind k bytes selection j ≡ None = is_kind
              ∙ ap (λ b. if b then Some (in_context Before) else None) test in
              rw (kind, and-false (nat_lt 0 (A + B)), test) refl

          close : i - j ≤ B → calls_at k bytes selection j
              ≡ before_calls k v j i (number k bytes j) start end line
          close inner =
              let test = le-leb (i - j) B inner in
              let kind : Plans.kind k bytes selection j ≡ Some (in_context Before) = is_kind
              ∙ ap (λ b. if b then Some (in_context Before) else None) test in
              let gap : (nat_lt 0 (A + B) && true && not (is_reported (j - 1))
              && some_below is_reported j)
              ≡ breaks_near k v j i =
              SelectionLemmas.gap-passed near inside has hit j low less inner in
              let found = SelectionLemmas.next-passed near inside has hit j
              low less in
              rw (kind, gap, found, is_start, is_end, is_line, test) refl

      -- the match's calls
      pub calls_at-hit : (start end : ℕ) (line : List ℕ) → number k bytes i ≡ number_of k i
          → Plans.start k bytes i ≡ start → Plans.start k bytes (i + 1) ≡ end
          → Plans.line k bytes i ≡ line → calls_at k bytes selection i
          ≡ selected_calls k v i start end line no_surroundings
      calls_at-hit start end line is_number is_start is_end is_line =
          let kind : Plans.kind k bytes selection i ≡ Some matched = rw hit refl in
          let gap : (nat_lt 0 (A + B) && true && not (is_reported (i - 1))
          && some_below is_reported i)
          ≡ (nat_lt 0 A && breaks_near k v i i) =
          SelectionLemmas.gap-hit near inside has hit in
          rw (kind, gap, slice-line k bytes i, is_number, is_end, is_start, is_line) refl
