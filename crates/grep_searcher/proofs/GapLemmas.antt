-- Where a search breaks: between two reports of which the first ends before the second begins.
use Rattle.std.proofs.Common.{◌≡◌, ℕ, zero, suc, ◌+◌, ◌-◌, ◌<◌, ◌≤◌, Bool, true, false, not, ◌&&◌}
use Rattle.std.proofs.Common.{List, [], ◌∷◌, ◌++◌, length, Option, Some, None, refl, sym}
use Rattle.std.proofs.Common.{ap, ◌∙◌, arith, ⊎_elim, if◌then◌else◌, inl, inr, subst}
use Rattle.std.proofs.Math.Bool.{and-false}
use Rattle.std.proofs.lemmas.Bool.{and_parts, cases_Bool, cases_lt, false≢true, le-leb, le-ltb}
use Rattle.std.proofs.lemmas.Bool.{leb-true, lt-ltb, ltb-true}
use Rattle.std.proofs.lemmas.List.{map-append}
use Rattle.std.proofs.lemmas.List.Elements.{All-head, All-tail, filter_passes}
use Rattle.std.proofs.lemmas.List.Sums.{sum_by-append, sum_by-cons}
use Rattle.std.specs.Prelude.{◌⊎◌, All, cond, count_by, filter, is_some, nat_le, nat_lt}
use Rattle.grep_matcher.specs.Lines.{byte_of}
use Rattle.grep_matcher.specs.Meanings.{Meaning}
use Rattle.grep_matcher.proofs.LineStartLemmas.{line_start-ascends, line_start-le, line_start-more}
use Rattle.grep_report.specs.declared.sink_context.SinkContextKind.{SinkContextKind}
use Rattle.grep_report.specs.declared.sink_context.SinkContextKind.TheVariants.{Before, After}
use Rattle.grep_report.specs.declared.sink_context.SinkContextKind.TheVariants.{Other}
use Rattle.grep_definitions.specs.Plans.{begins, binary_data, breaks, breaks_before, Call, calls_at}
use Rattle.grep_definitions.specs.Plans.{can_break, context, continues, count_at, finishes}
use Rattle.grep_definitions.specs.Plans.{follows_selected, in_context, is_across, is_break}
use Rattle.grep_definitions.specs.Plans.{is_reported, is_selected, is_touched_selected, joined_from}
use Rattle.grep_definitions.specs.Plans.{Kind, kind, line, line_count, matched, matches, number}
use Rattle.grep_definitions.specs.Plans.{plan_in, Planned, planned, precedes_selected, report}
use Rattle.grep_definitions.specs.Plans.{report_end, report_lines, report_surroundings}
use Rattle.grep_definitions.specs.Plans.{reported_from, reports_end, reports_plan, search_plan}
use Rattle.grep_definitions.specs.Plans.{selected_lines, Selection, selects_free, Settings}
use Rattle.grep_definitions.specs.Plans.{some_below, start, touched_lines}
use Rattle.grep_definitions.specs.SearchLaws.{calls_of, is_report, report_calls, reported_to}
use Rattle.grep_definitions.proofs.BelowLemmas.{some_below-find, some_below-none, some_below-some}
use Rattle.grep_definitions.proofs.LineSliceLemmas.{slice-line}
use Rattle.grep_definitions.proofs.RunLemmas.{IsRunEnd, IsRunEnd-run_end, run_end}
use Rattle.grep_definitions.proofs.SearchLawLemmas.{kind-selected, reports_end-le}
use Rattle.grep_definitions.proofs.UnitLemmas.{IsUnitOf, unit-lines}
use Rattle.grep_searcher.specs.Gaps.{BreaksAreCounted, BreaksAreFew, BreaksAreGaps, broken_after}
use Rattle.grep_searcher.specs.Gaps.{gaps, gaps_after, with_breaks}
use Rattle.grep_searcher.proofs.UnitCallLemmas.{start-high}

-- ---- lists of calls

abbrev IsBroken : ℕ → List Call → Type 0
IsBroken end calls = calls ≡ broken_after end (filter is_report calls)

-- a report directly after the one before it, or after a gap
touching : (end : ℕ) (call : Call) (later : List Call) → is_report call ≡ true
    → reported_from call ≤ end → IsBroken (reported_to call) later → IsBroken end (call ∷ later)
touching end call later is low rest =
    let same : nat_lt end (reported_from call) ≡ false = le-ltb end (reported_from call) low in
    rw (is, same) (ap (λ calls. call ∷ calls) rest)

apart : (end : ℕ) (call : Call) (later : List Call) → is_report call ≡ true
    → end < reported_from call → IsBroken (reported_to call) later
    → IsBroken end (breaks ∷ call ∷ later)
apart end call later is gap rest =
    let over : nat_lt end (reported_from call) ≡ true = lt-ltb end (reported_from call) gap in
    rw (is, over) (ap (λ calls. breaks ∷ call ∷ calls) rest)

-- ---- lines at which a report begins, or goes on, or that have none

module _ (f : ℕ → List Planned) (start : ℕ → ℕ) (reported joins : ℕ → Bool) (n : ℕ) where
  -- a report begins at line i, after a break if lines were left out since the last one, and ends
  -- before line `next`. Line `next` isn't in it, and its other lines have no calls
  record Spoken (i : ℕ) : Type 0 where
    call : Call
    next : ℕ
    is : is_report call ≡ true
    from : reported_from call ≡ start i
    to : reported_to call ≡ start next
    calls : calls_of (f i)
        ≡ (if not (reported (i - 1)) && some_below reported i then breaks ∷ call ∷ []
        else call ∷ [])
    later : i < next
    here : reported (next - 1) ≡ true
    alone : (j : ℕ) → i < j → j < next → calls_of (f j) ≡ []
    fresh : next < n → joins next ≡ false

  -- the last report that began before line i ends before line e, which may be at line i, before it
  -- or after it
  record IsAfter (i e : ℕ) : Type 0 where
    low : 0 < e
    here : reported (e - 1) ≡ true
    fresh : e < n → joins e ≡ false
    none : (j : ℕ) → e ≤ j → j < i → reported j ≡ false
    alone : (j : ℕ) → i ≤ j → j < e → calls_of (f j) ≡ []

  module _ (ascends : (i j : ℕ) → i < j → j ≤ n → start i < start j)
      (silent : (i : ℕ) → i < n → reported i ≡ false → calls_of (f i) ≡ [])
      (joined : (i : ℕ) → i < n → joins i ≡ true → (0 < i) × (reported (i - 1) ≡ true))
      (spoken : (i : ℕ) → i < n → reported i ≡ true → joins i ≡ false → Spoken i) where
    -- the calls from line i on
    abbrev calls_from : ℕ → ℕ → List Call
    calls_from i m = calls_of (joined_from f i m)

    calls-next : (i m : ℕ) → calls_from i (suc m) ≡ calls_of (f i) ++ calls_from (i + 1) m
    calls-next i m =
        map-append (λ (planned : Planned). planned.call) (f i) (joined_from f (i + 1) m)

    -- a line without a call
    pass-line : (i m : ℕ) → calls_of (f i) ≡ [] → calls_from i (suc m) ≡ calls_from (i + 1) m
    pass-line i m none = calls-next i m ∙ ap (λ calls. calls ++ calls_from (i + 1) m) none

    -- a line at which a report begins
    say-line : (i m e : ℕ) → i < n → e ≤ i → IsAfter i e → (line : Spoken i)
        → IsBroken (start line.next) (calls_from (i + 1) m)
        → IsBroken (start e) (calls_from i (suc m))
    say-line i m e inside over after line rest = ⊎_elim after_gap directly (cases_lt e i)
      where
        later : IsBroken (reported_to line.call) (calls_from (i + 1) m)
        later = subst (λ end. IsBroken end (calls_from (i + 1) m)) (sym line.to) rest

        calls_if : Bool → Bool → List Call
        calls_if before some =
            if not before && some then breaks ∷ line.call ∷ [] else line.call ∷ []

        calls-are : (calls : List Call) → calls_of (f i) ≡ calls
            → IsBroken (start e) (calls ++ calls_from (i + 1) m)
            → IsBroken (start e) (calls_from i (suc m))
        calls-are calls same broken = subst (IsBroken (start e))
            (sym (calls-next i m ∙ ap (λ some. some ++ calls_from (i + 1) m) same)) broken

        after_gap : e < i → IsBroken (start e) (calls_from i (suc m))
        after_gap gap = calls-are (breaks ∷ line.call ∷ [])
            (line.calls ∙ ap (λ before. calls_if before (some_below reported i))
            (after.none (i - 1) (omega arith) (omega arith))
            ∙ ap (calls_if false) (some_below-some reported i (e - 1) (omega (arith, after.low))
            after.here))
            (apart (start e) line.call (calls_from (i + 1) m) line.is
            (omega (arith, line.from, ascends e i gap (omega arith))) later)

        directly : i ≤ e → IsBroken (start e) (calls_from i (suc m))
        directly near =
            let same : i ≡ e = omega arith in
            calls-are (line.call ∷ [])
            (line.calls ∙ ap (λ before. calls_if before (some_below reported i))
            (ap (λ j. reported (j - 1)) same ∙ after.here))
            (touching (start e) line.call (calls_from (i + 1) m) line.is
            (omega (arith, line.from, ap start same)) later)

    -- the first report
    first-line : (i m : ℕ) → i < n → ((j : ℕ) → j < i → reported j ≡ false) → (line : Spoken i)
        → IsBroken (start line.next) (calls_from (i + 1) m)
        → calls_from i (suc m) ≡ with_breaks (filter is_report (calls_from i (suc m)))
    first-line i m inside none line rest =
        let later = subst (λ end. IsBroken end (calls_from (i + 1) m)) (sym line.to) rest in
        let bare : calls_of (f i) ≡ line.call ∷ [] = line.calls
        ∙ ap (λ some. if not (reported (i - 1)) && some then breaks ∷ line.call ∷ []
        else line.call ∷ []) (some_below-none reported i none)
        ∙ ap (λ b. if b then breaks ∷ line.call ∷ [] else line.call ∷ [])
        (and-false (not (reported (i - 1)))) in
        let same : calls_from i (suc m) ≡ line.call ∷ calls_from (i + 1) m =
        calls-next i m ∙ ap (λ calls. calls ++ calls_from (i + 1) m) bare in
        subst (λ calls. calls ≡ with_breaks (filter is_report calls)) (sym same)
        (rw line.is (ap (λ calls. line.call ∷ calls) later))

    -- the line after it comes after or within this report
    after-line : (i : ℕ) (line : Spoken i) → IsAfter (i + 1) line.next
    after-line i line = record {
      low = omega (arith, line.later);
      here = line.here;
      fresh = line.fresh;
      none = λ j over under. absurd (omega (arith, line.later));
      alone = λ j over under. line.alone j (omega arith) under;
    }

    -- after a report that has ended, no line goes on with one
    unjoined : (i e : ℕ) → i < n → e ≤ i → IsAfter i e → joins i ≡ false
    unjoined i e inside over after = ⊎_elim (λ is. absurd (⊎_elim
        (λ gap. let before = after.none (i - 1) (omega arith) (omega (arith, gap)) in
        false≢true (sym before ∙ (joined i inside is).1))
        (λ near. let same : i ≡ e = omega arith in
        false≢true (sym (after.fresh (omega arith)) ∙ ap joins (sym same) ∙ is))
        (cases_lt e i))) (λ none. none) (cases_Bool (joins i))

    -- one more line, if those after it have their breaks
    more-line : (i m e : ℕ) → i < n → IsAfter i e
        → ((next : ℕ) → IsAfter (i + 1) next → IsBroken (start next) (calls_from (i + 1) m))
        → IsBroken (start e) (calls_from i (suc m))
    more-line i m e inside after rest = ⊎_elim within over (cases_lt i e)
      where
        within : i < e → IsBroken (start e) (calls_from i (suc m))
        within less =
            subst (IsBroken (start e)) (sym (pass-line i m (after.alone i (omega arith) less)))
            (rest e (record {
              low = after.low;
              here = after.here;
              fresh = after.fresh;
              none = λ j above under. absurd (omega arith);
              alone = λ j above under. after.alone j (omega arith) under;
            }))

        over : e ≤ i → IsBroken (start e) (calls_from i (suc m))
        over past = ⊎_elim
            (λ is. let line = spoken i inside is (unjoined i e inside past after) in
            say-line i m e inside past after line (rest line.next (after-line i line)))
            (λ is. subst (IsBroken (start e)) (sym (pass-line i m (silent i inside is)))
            (rest e (record {
              low = after.low;
              here = after.here;
              fresh = after.fresh;
              none = λ j above under. ⊎_elim (after.none j above)
                  (λ last. let same : j ≡ i = omega arith in ap reported same ∙ is) (cases_lt j i);
              alone = λ j above under. absurd (omega arith);
            }))) (cases_Bool (reported i))

    -- those from line i on
    broken-from : (m i e : ℕ) → i + m ≡ n → IsAfter i e → IsBroken (start e) (calls_from i m)
    broken-from zero i e all after = refl
    broken-from (suc m) i e all after = more-line i m e (omega arith) after
        (λ next follows. broken-from m (i + 1) next (omega arith) follows)

    -- those from line i on, if no line before it has a report
    unbroken-from : (m i : ℕ) → i + m ≡ n → ((j : ℕ) → j < i → reported j ≡ false)
        → calls_from i m ≡ with_breaks (filter is_report (calls_from i m))
    unbroken-from zero i all none = refl
    unbroken-from (suc m) i all none = ⊎_elim
        (λ is. let line = spoken i (omega arith) is (alone (joins i) refl) in
        first-line i m (omega arith) none line
        (broken-from m (i + 1) line.next (omega arith) (after-line i line)))
        (λ is. subst (λ calls. calls ≡ with_breaks (filter is_report calls))
        (sym (pass-line i m (silent i (omega arith) is)))
        (unbroken-from m (i + 1) (omega arith) (λ j under. ⊎_elim (none j)
        (λ past. let same : j ≡ i = omega arith in ap reported same ∙ is) (cases_lt j i))))
        (cases_Bool (reported i))
      where
        alone : (b : Bool) → joins i ≡ b → joins i ≡ false
        alone false is = is
        alone true is =
            let before = joined i (omega arith) is in
            absurd (false≢true (sym (none (i - 1) (omega (arith, before.0))) ∙ before.1))

-- ---- the lines of a search, given which of them are selected

-- in what case a line is reported as one after a match, or as any other
kind-after : (a b t c d : Bool) → (if a then Some matched
    else (if b then Some (if t then matched else in_context After)
    else (if c then Some (in_context Before)
    else (if d then Some (in_context Other) else None)))) ≡ Some (in_context After) → b ≡ true
kind-after true b t c d is = cc
kind-after false true t c d is = refl
kind-after false false t true d is = cc
kind-after false false t false true is = cc
kind-after false false t false false is = cc

kind-other : (a b t c d : Bool) → (if a then Some matched
    else (if b then Some (if t then matched else in_context After)
    else (if c then Some (in_context Before)
    else (if d then Some (in_context Other) else None)))) ≡ Some (in_context Other) → d ≡ true
kind-other true b t c d is = cc
kind-other false true true c d is = cc
kind-other false true false c d is = cc
kind-other false false t true d is = cc
kind-other false false t false true is = refl
kind-other false false t false false is = cc

-- a line of context isn't selected
kind-unselected : (a b t c d : Bool) (how : SinkContextKind) → (if a then Some matched
    else (if b then Some (if t then matched else in_context After)
    else (if c then Some (in_context Before)
    else (if d then Some (in_context Other) else None)))) ≡ Some (in_context how) → a ≡ false
kind-unselected true b t c d how is = cc
kind-unselected false b t c d how is = refl

-- it is reported if it is selected, in the context after a selected line, or under `passthru`
kind-some : (a b t c d : Bool) → (a ≡ true) ⊎ ((b ≡ true) ⊎ (d ≡ true))
    → is_some (if a then Some matched
    else (if b then Some (if t then matched else in_context After)
    else (if c then Some (in_context Before)
    else (if d then Some (in_context Other) else None)))) ≡ true
kind-some true b t c d shows = refl
kind-some false true t c d shows = refl
kind-some false false t true d shows = refl
kind-some false false t false true shows = refl
kind-some false false t false false shows =
    absurd (⊎_elim false≢true (⊎_elim false≢true false≢true) shows)

-- whether a break comes
break-if : (context can before some : Bool) → context ≡ true
    → (can ≡ true) ⊎ (some ≡ true → before ≡ true)
    → (context && can && not before && some) ≡ (not before && some)
break-if true true before some is either = refl
break-if true false true some is either = refl
break-if true false false false is either = refl
break-if true false false true is either =
    absurd (⊎_elim false≢true (λ shown. false≢true (shown refl)) either)
break-if false can before some is either = absurd (false≢true is)

break-none : (context before some : Bool) → (context && false && not before && some) ≡ false
break-none true before some = refl
break-none false before some = refl

-- nor does one come within a report
break-within : (context before some : Bool) → before ≡ true
    → (context && true && not before && some) ≡ false
break-within true true some is = refl
break-within false true some is = refl
break-within any false some is = absurd (false≢true is)

-- a line after one that isn't selected goes on with no report
unjoined-if : (selected joined later before : Bool) → before ≡ false
    → (selected && (joined && later && before)) ≡ false
unjoined-if false joined later before none = refl
unjoined-if true false later before none = refl
unjoined-if true true false before none = refl
unjoined-if true true true before none = none

module _ (k : Settings) (bytes : List ℕ) (s : Selection) where
  abbrev shown : ℕ → Bool
  shown = is_reported k bytes s

  -- a selected line that goes on with the report of the line before it
  abbrev joins : ℕ → Bool
  joins i = s.selected i && continues k bytes s i

  -- the calls of a line, by how it is reported
  abbrev calls_by : ℕ → Option Kind → Bool → List Planned
  calls_by i kind breaks_here =
      if breaks_here then planned breaks (count_at k bytes s i kind) ∷ report k bytes s i kind
      else report k bytes s i kind

  -- the lines of the report that begins at a line that is a match, and where its bytes end
  record IsUnit (i : ℕ) : Type 0 where
    later : i < report_end k bytes s i
    within : report_end k bytes s i ≤ s.end
    size : start k bytes i + length (report_lines k bytes s i)
        ≡ start k bytes (report_end k bytes s i)
    first : joins i ≡ false → continues k bytes s i ≡ false
    same : (j : ℕ) → i < j → j < report_end k bytes s i → (s.selected j ≡ true)
        × (continues k bytes s j ≡ true)
    fresh : report_end k bytes s i < s.end → joins (report_end k bytes s i) ≡ false

  module _ (within : s.end ≤ line_count k bytes)
      (unit : (i : ℕ) → i < s.end → kind k bytes s i ≡ Some matched → IsUnit i) where
    ascends : (i j : ℕ) → i < j → j ≤ s.end → start k bytes i < start k bytes j
    ascends i j less low =
        let t = byte_of k.line_terminator in
        omega (
          arith,
          line_start-ascends t bytes i (omega (arith, within)),
          line_start-le t bytes (i + 1) j (omega arith),
        )

    is-shown : (i : ℕ) → i < s.end → shown i ≡ is_some (kind k bytes s i)
    is-shown i inside = ap (λ b. b && is_some (kind k bytes s i)) (lt-ltb i s.end inside)

    silent : (i : ℕ) → i < s.end → shown i ≡ false → calls_of (calls_at k bytes s i) ≡ []
    silent i inside none = go (kind k bytes s i) refl (sym (is-shown i inside) ∙ none)
      where
        go : (o : Option Kind) → kind k bytes s i ≡ o → is_some o ≡ false
            → calls_of (calls_at k bytes s i) ≡ []
        go None is missing = ap (λ o. calls_of (calls_by i o
            (nat_lt 0 (k.after_context + k.before_context)
            && can_break o && not (shown (i - 1)) && some_below shown i))) is
            ∙ ap (λ b. calls_of (calls_by i None b)) (break-none
            (nat_lt 0 (k.after_context + k.before_context)) (shown (i - 1)) (some_below shown i))
        go (Some how) is missing = cc

    -- a selected line is reported
    shown-selected : (i : ℕ) → i < s.end → s.selected i ≡ true → shown i ≡ true
    shown-selected i inside is =
        is-shown i inside
        ∙ kind-some (s.selected i) (follows_selected k bytes s i) (s.trailing i)
        (precedes_selected k bytes s i) k.passthru (inl is)

    -- so is the line before one in the context after a selected line
    shown-before : (i : ℕ) → i < s.end → follows_selected k bytes s i ≡ true
        → shown (i - 1) ≡ true
    shown-before i inside follows =
        let found = some_below-find (λ j. nat_le (i - j) k.after_context && s.selected j) i
        follows in
        let parts = and_parts (nat_le (i - found.0) k.after_context) (s.selected found.0)
        found.2 in
        let near = leb-true (i - found.0) k.after_context parts.0 in
        is-shown (i - 1) (omega arith) ∙ kind-some (s.selected (i - 1))
        (follows_selected k bytes s (i - 1)) (s.trailing (i - 1))
        (precedes_selected k bytes s (i - 1)) k.passthru (⊎_elim
        (λ less. inr (inl (some_below-some
        (λ j. nat_le ((i - 1) - j) k.after_context && s.selected j) (i - 1) found.0 less
        (let close : nat_le ((i - 1) - found.0) k.after_context ≡ true =
        le-leb ((i - 1) - found.0) k.after_context (omega (arith, near)) in
        rw (close, parts.1) refl)))) (λ over. let same : i - 1 ≡ found.0 = omega (arith, found.1) in
        inl (ap s.selected same ∙ parts.1)) (cases_lt found.0 (i - 1)))

    -- under `passthru` each line is
    shown-passed : (i : ℕ) → i < s.end → k.passthru ≡ true → shown i ≡ true
    shown-passed i inside passes =
        is-shown i inside
        ∙ kind-some (s.selected i) (follows_selected k bytes s i) (s.trailing i)
        (precedes_selected k bytes s i) k.passthru (inr (inr passes))

    -- what a line that goes on with a report comes after
    continues-after : (i : ℕ) → continues k bytes s i ≡ true
        → (0 < i) × (s.selected (i - 1) ≡ true)
    continues-after i is =
        let parts = and_parts (s.joined && nat_lt 0 i) (s.selected (i - 1)) is in
        (ltb-true 0 i (and_parts s.joined (nat_lt 0 i) parts.0).1, parts.1)

    joined : (i : ℕ) → i < s.end → joins i ≡ true → (0 < i) × (shown (i - 1) ≡ true)
    joined i inside is =
        let before = continues-after i (and_parts (s.selected i) (continues k bytes s i) is).1 in
        (before.0, shown-selected (i - 1) (omega arith) before.1)

    -- it has no call of its own
    silent-joined : (i : ℕ) → i < s.end → s.selected i ≡ true → continues k bytes s i ≡ true
        → calls_of (calls_at k bytes s i) ≡ []
    silent-joined i inside selected goes_on =
        let before = shown-selected (i - 1) (omega arith) (continues-after i goes_on).1 in
        let how : kind k bytes s i ≡ Some matched = rw selected refl in
        ap (λ o. calls_of (calls_by i o (nat_lt 0 (k.after_context + k.before_context)
        && can_break o && not (shown (i - 1)) && some_below shown i))) how
        ∙ ap (λ b. calls_of (calls_by i (Some matched) b)) (break-within
        (nat_lt 0 (k.after_context + k.before_context)) (shown (i - 1)) (some_below shown i) before)
        ∙ (rw goes_on refl)

    -- a line that is reported, with a context
    spoken : 0 < k.after_context + k.before_context → (i : ℕ) → i < s.end → shown i ≡ true
        → joins i ≡ false
        → Spoken (calls_at k bytes s) (start k bytes) shown joins s.end i
    spoken near i inside is alone =
        go (kind k bytes s i) refl (sym (is-shown i inside) ∙ is)
      where
        -- a line of context has a report of its own
        to : start k bytes i + length (line k bytes i) ≡ start k bytes (i + 1)
        to = sym (line_start-more (byte_of k.line_terminator) bytes i (omega (arith, within)))

        here : shown ((i + 1) - 1) ≡ true
        here = let same : (i + 1) - 1 ≡ i = omega arith in ap shown same ∙ is

        fresh : (how : SinkContextKind) → kind k bytes s i ≡ Some (in_context how)
            → joins (i + 1) ≡ false
        fresh how kind_is =
            let same : (i + 1) - 1 ≡ i = omega arith in
            unjoined-if (s.selected (i + 1)) s.joined (nat_lt 0 (i + 1)) (s.selected ((i + 1) - 1))
            (ap s.selected same ∙ kind-unselected (s.selected i) (follows_selected k bytes s i)
            (s.trailing i) (precedes_selected k bytes s i) k.passthru how kind_is)

        -- with a break or without
        calls-are : (how : Kind) (call : Call) (count : ℕ)
            → kind k bytes s i ≡ Some how
            → report k bytes s i (Some how) ≡ planned call count ∷ []
            → (can_break (Some how) ≡ true) ⊎ (some_below shown i ≡ true → shown (i - 1) ≡ true)
            → calls_of (calls_at k bytes s i)
            ≡ (if not (shown (i - 1)) && some_below shown i then breaks ∷ call ∷ [] else call ∷ [])
        calls-are how call count kind_is report_is either =
            ap (λ o. calls_of (calls_by i o (nat_lt 0 (k.after_context + k.before_context)
            && can_break o && not (shown (i - 1)) && some_below shown i))) kind_is
            ∙ ap (λ b. calls_of (calls_by i (Some how) b)) (break-if _ _ _ _
            (lt-ltb 0 (k.after_context + k.before_context) near) either)
            ∙ ap (λ one. calls_of (if not (shown (i - 1)) && some_below shown i
            then planned breaks (count_at k bytes s i (Some how)) ∷ one else one)) report_is
            ∙ both (not (shown (i - 1)) && some_below shown i)
          where
            both : (b : Bool) → calls_of (if b
                then planned breaks (count_at k bytes s i (Some how)) ∷ planned call count ∷ []
                else planned call count ∷ []) ≡ (if b then breaks ∷ call ∷ [] else call ∷ [])
            both true = refl
            both false = refl

        of_context : (how : SinkContextKind) → kind k bytes s i ≡ Some (in_context how)
            → (can_break (Some (in_context how)) ≡ true)
            ⊎ (some_below shown i ≡ true → shown (i - 1) ≡ true)
            → Spoken (calls_at k bytes s) (start k bytes) shown joins s.end i
        of_context how kind_is either = record {
          call = context how (number k bytes i) (start k bytes i) (line k bytes i);
          next = i + 1;
          is = refl;
          from = refl;
          to = to;
          calls = calls-are (in_context how) _ _ kind_is refl either;
          later = omega arith;
          here = here;
          alone = λ j over under. absurd (omega arith);
          fresh = λ _. fresh how kind_is;
        }

        go : (o : Option Kind) → kind k bytes s i ≡ o → is_some o ≡ true
            → Spoken (calls_at k bytes s) (start k bytes) shown joins s.end i
        go None kind_is some = cc
        go (Some matched) kind_is some =
            let whole = unit i inside kind_is in
            let bare = whole.first alone in
            record {
              call = matches (number k bytes i) (start k bytes i) (report_lines k bytes s i)
                  (report_surroundings k bytes s i);
              next = report_end k bytes s i;
              is = refl;
              from = refl;
              to = whole.size;
              calls = calls-are matched _ (count_at k bytes s i (Some matched)) kind_is
                  (rw bare refl) (inl refl);
              later = whole.later;
              here = ⊎_elim
                  (λ more. shown-selected (report_end k bytes s i - 1) (omega (arith, whole.within))
                  (whole.same (report_end k bytes s i - 1) (omega (arith, more))
                  (omega (arith, more))).0)
                  (λ one. let same : report_end k bytes s i - 1 ≡ i = omega (arith, whole.later) in
                  ap shown same ∙ is) (cases_lt (i + 1) (report_end k bytes s i));
              alone = λ j over under.
                  let goes_on = whole.same j over under in
                  silent-joined j (omega (arith, whole.within)) goes_on.0 goes_on.1;
              fresh = whole.fresh;
            }
        go (Some (in_context Before)) kind_is some = of_context Before kind_is (inl refl)
        go (Some (in_context After)) kind_is some = of_context After kind_is
            (inr (λ any. shown-before i inside
            (kind-after (s.selected i) (follows_selected k bytes s i) (s.trailing i)
            (precedes_selected k bytes s i) k.passthru kind_is)))
        go (Some (in_context Other)) kind_is some = of_context Other kind_is
            (inr (λ any. shown-passed (i - 1) (omega arith)
            (kind-other (s.selected i) (follows_selected k bytes s i) (s.trailing i)
            (precedes_selected k bytes s i) k.passthru kind_is)))

    -- so the calls are the reports, with a break in each gap
    breaks-selected : 0 < k.after_context + k.before_context
        → calls_of (reports_plan k bytes s).calls
        ≡ begins ∷ with_breaks (report_calls (reports_plan k bytes s).calls)
    breaks-selected near = ap (λ calls. begins ∷ calls)
        (unbroken-from (calls_at k bytes s) (start k bytes) shown joins s.end ascends silent joined
        (spoken near) s.end 0 (omega arith) (λ j below. absurd (omega arith)))

-- ---- by line, and across lines

module _ (k : Settings) (meaning : Meaning) (bytes : List ℕ) where
  unit-by_line : (i : ℕ) → i < reports_end k meaning bytes
      → kind k bytes (selected_lines k meaning bytes) i ≡ Some matched
      → IsUnit k bytes (selected_lines k meaning bytes) i
  unit-by_line i inside is = record {
    later = omega arith;
    within = omega arith;
    size = ap (λ xs. start k bytes i + length xs) (slice-line k bytes i)
        ∙ sym (line_start-more (byte_of k.line_terminator) bytes i
        (omega (arith, reports_end-le k meaning bytes)));
    first = λ _. refl;
    same = λ j over under. absurd (omega arith);
    fresh = λ _. and-false (is_selected k meaning bytes (i + 1));
  }

  unit-across : (i : ℕ) → i < line_count k bytes
      → kind k bytes (touched_lines k meaning bytes) i ≡ Some matched
      → IsUnit k bytes (touched_lines k meaning bytes) i
  unit-across i inside is = record {
    later = whole.later;
    within = within;
    size = whole.size;
    first = λ none. ap (λ b. b && continues k bytes touched i) (sym here) ∙ none;
    same = whole.hits;
    fresh = fresh;
  }
    where
      n : ℕ
      n = line_count k bytes

      touched : Selection
      touched = touched_lines k meaning bytes

      selected : ℕ → Bool
      selected = is_touched_selected k meaning bytes

      here : selected i ≡ true
      here = kind-selected (selected i) (follows_selected k bytes touched i)
          (precedes_selected k bytes touched i) k.passthru is

      whole : IsUnitOf k meaning bytes i
      whole = unit-lines k meaning bytes i inside here

      run : IsRunEnd selected n i (run_end selected n i)
      run = IsRunEnd-run_end selected n i inside here

      end : (inverted : Bool) → selects_free k ≡ inverted → report_end k bytes touched i
          ≡ (if not inverted then run_end selected n i else i + 1)
      end inverted is = ap (λ b. if not b then run_end selected n i else i + 1) is

      within : report_end k bytes touched i ≤ n
      within = ⊎_elim (λ is. omega (arith, end true is))
          (λ is. omega (arith, end false is, run.high)) (cases_Bool (selects_free k))

      fresh : report_end k bytes touched i < n
          → joins k bytes touched (report_end k bytes touched i) ≡ false
      fresh below = ⊎_elim
          (λ is. ap (λ b. selected (report_end k bytes touched i) && (not b
          && nat_lt 0 (report_end k bytes touched i)
          && selected (report_end k bytes touched i - 1))) is
          ∙ and-false (selected (report_end k bytes touched i)))
          (λ is. ap (joins k bytes touched) (end false is)
          ∙ ap (λ b. b && continues k bytes touched (run_end selected n i))
          (run.closed (omega (arith, end false is)))) (cases_Bool (selects_free k))

  breaks-in : (across : Bool) → 0 < k.after_context + k.before_context
      → calls_of (plan_in k meaning bytes across).calls
      ≡ begins ∷ with_breaks (report_calls (plan_in k meaning bytes across).calls)
  breaks-in false = breaks-selected k bytes (selected_lines k meaning bytes)
      (reports_end-le k meaning bytes) unit-by_line
  breaks-in true = breaks-selected k bytes (touched_lines k meaning bytes) (omega arith) unit-across

pub breaks-are_gaps : BreaksAreGaps
breaks-are_gaps k meaning bytes = breaks-in k meaning bytes (is_across k meaning)

-- ---- counts

count-cons : (p : Call → Bool) (call : Call) (calls : List Call)
    → count_by p (call ∷ calls) ≡ cond (p call) 1 0 + count_by p calls
count-cons p call calls = sum_by-cons (λ c. cond (p c) 1 0) call calls

abbrev IsReport : Call → Type 0
IsReport call = is_report call ≡ true

-- a report is no break
unbroken : (call : Call) → is_report call ≡ true → is_break call ≡ false
unbroken begins is = cc
unbroken (matches number offset line around) is = refl
unbroken (context kind number offset line) is = refl
unbroken breaks is = cc
unbroken (binary_data offset) is = cc
unbroken (finishes count binary) is = cc

count-report : (call : Call) (later : List Call) → is_report call ≡ true
    → count_by is_break (call ∷ later) ≡ count_by is_break later
count-report call later is =
    count-cons is_break call later
    ∙ ap (λ b. cond b 1 0 + count_by is_break later) (unbroken call is) ∙ omega arith

-- a break is counted for each gap
broken-counted : (from : ℕ) (reports : List Call) → All IsReport reports
    → count_by is_break (broken_after from reports) ≡ gaps_after from reports
broken-counted from [] are = refl
broken-counted from (call ∷ later) are =
    go (nat_lt from (reported_from call))
    (count-report call (broken_after (reported_to call) later) (All-head IsReport call later are)
    ∙ broken-counted (reported_to call) later (All-tail IsReport call later are))
  where
    go : (b : Bool) → count_by is_break (call ∷ broken_after (reported_to call) later)
        ≡ gaps_after (reported_to call) later
        → count_by is_break (if b then breaks ∷ call ∷ broken_after (reported_to call) later
        else call ∷ broken_after (reported_to call) later)
        ≡ (if b then 1 else 0) + gaps_after (reported_to call) later
    go true same = count-cons is_break breaks (call ∷ broken_after (reported_to call) later)
        ∙ ap (λ n. 1 + n) same
    go false same = same ∙ omega arith

pub breaks-are_counted : BreaksAreCounted
breaks-are_counted k meaning bytes near =
    let calls = calls_of (search_plan k meaning bytes).calls in
    ap (count_by is_break) (breaks-are_gaps k meaning bytes near)
    ∙ count-cons is_break begins (with_breaks (filter is_report calls))
    ∙ go (filter is_report calls) (filter_passes is_report calls)
  where
    go : (reports : List Call) → All IsReport reports
        → 0 + count_by is_break (with_breaks reports) ≡ gaps reports
    go [] are = refl
    go (call ∷ later) are = omega (
      arith,
      count-report call (broken_after (reported_to call) later) (All-head IsReport call later are),
      broken-counted (reported_to call) later (All-tail IsReport call later are),
    )

-- a line has one break at most
one-break : (calls : List Planned) (end : ℕ) (b : Bool) → count_by is_break (calls_of calls) ≡ 0
    → count_by is_break (calls_of (if b then planned breaks end ∷ calls else calls)) ≤ 1
one-break calls end true none = omega (arith, none, count-cons is_break breaks (calls_of calls))
one-break calls end false none = omega (arith, none)

breaks-joined : (f : ℕ → List Planned)
    → ((i : ℕ) → count_by is_break (calls_of (f i)) ≤ 1) → (m i : ℕ)
    → count_by is_break (calls_of (joined_from f i m)) ≤ m
breaks-joined f one zero i = omega arith
breaks-joined f one (suc m) i = omega (
  arith,
  ap (count_by is_break) (map-append (λ (planned : Planned). planned.call) (f i)
      (joined_from f (i + 1) m)),
  sum_by-append (λ c. cond (is_break c) 1 0) (calls_of (f i)) (calls_of (joined_from f (i + 1) m)),
  one i,
  breaks-joined f one m (i + 1),
)

-- a report has none
unbroken-report : (k : Settings) (bytes : List ℕ) (s : Selection) (i : ℕ) (o : Option Kind)
    → count_by is_break (calls_of (report k bytes s i o)) ≡ 0
unbroken-report k bytes s i None = refl
unbroken-report k bytes s i (Some matched) = go (continues k bytes s i)
  where
    go : (b : Bool) → count_by is_break (calls_of (if b then [] else planned
        (matches (number k bytes i) (start k bytes i) (report_lines k bytes s i)
        (report_surroundings k bytes s i)) (count_at k bytes s i (Some matched)) ∷ [])) ≡ 0
    go true = refl
    go false = refl
unbroken-report k bytes s i (Some (in_context c)) = refl

few-selected : (k : Settings) (bytes : List ℕ) (s : Selection) → s.end ≤ line_count k bytes
    → count_by is_break (calls_of (reports_plan k bytes s).calls)
    ≤ (reports_plan k bytes s).finish.count
few-selected k bytes s within = omega (
  arith,
  count-cons is_break begins (calls_of (joined_from (calls_at k bytes s) 0 s.end)),
  breaks-joined (calls_at k bytes s) (λ i. one-break (report k bytes s i (kind k bytes s i))
      (count_at k bytes s i (kind k bytes s i)) (breaks_before k bytes s i)
      (unbroken-report k bytes s i (kind k bytes s i))) s.end 0,
  start-high (byte_of k.line_terminator) bytes s.end within,
)

pub breaks-are_few : BreaksAreFew
breaks-are_few k meaning bytes = go (is_across k meaning)
  where
    go : (across : Bool) → count_by is_break (calls_of (plan_in k meaning bytes across).calls)
        ≤ (plan_in k meaning bytes across).finish.count
    go false =
        few-selected k bytes (selected_lines k meaning bytes) (reports_end-le k meaning bytes)
    go true = few-selected k bytes (touched_lines k meaning bytes) (omega arith)
