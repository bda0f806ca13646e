-- The matches of a search across lines are its units.
use Rattle.std.proofs.Common.{◌≡◌, ℕ, zero, suc, ◌+◌, ◌-◌, ◌<◌, ◌≤◌, Bool, true, false, not, ◌&&◌}
use Rattle.std.proofs.Common.{List, [], ◌∷◌, ◌++◌, length, refl, sym, ◌∙◌, ap, arith, Option, Some}
use Rattle.std.proofs.Common.{None, if◌then◌else◌}
use Rattle.std.proofs.lemmas.Bool.{false≢true, ltb-true}
use Rattle.std.proofs.lemmas.List.{length-map}
use Rattle.std.proofs.lemmas.List.Elements.{filter-append}
use Rattle.std.proofs.lemmas.Option.{slice_get-map}
use Rattle.std.specs.Prelude.{filter, map, nat_lt, slice_get}
use Rattle.std.specs.Option.{option_map}
use Rattle.grep_matcher.specs.Lines.{byte_of, lines, line_start}
use Rattle.grep_matcher.specs.Meanings.{Meaning}
use Rattle.grep_report.specs.declared.sink_context.SinkContextKind.TheVariants.{Before, After}
use Rattle.grep_report.specs.declared.sink_context.SinkContextKind.TheVariants.{Other}
use Rattle.grep_definitions.specs.Plans.{is_across, search_plan, selection_in, planned, Call}
use Rattle.grep_definitions.specs.Plans.{Planned, breaks, matches, breaks_before, calls_at}
use Rattle.grep_definitions.specs.Plans.{count_at, first_below, follows_selected, in_context}
use Rattle.grep_definitions.specs.Plans.{joined_from, kind, line_count, matched, number}
use Rattle.grep_definitions.specs.Plans.{precedes_selected, report, reports_plan, Selection, start}
use Rattle.grep_definitions.specs.Plans.{is_touched_selected, reports_end, touched_lines, Settings}
use Rattle.grep_definitions.specs.Plans.{continues}
use Rattle.grep_definitions.specs.SearchLaws.{is_match, is_matched, match_calls}
use Rattle.grep_definitions.proofs.BelowLemmas.{first_below-before, first_below-here}
use Rattle.grep_definitions.proofs.BelowLemmas.{first_below-none, first_below-nowhere}
use Rattle.grep_definitions.proofs.BelowLemmas.{first_below-of, joined_from-equal, map-joined, some_below-false}
use Rattle.grep_definitions.proofs.BelowLemmas.{some_below-none}
use Rattle.grep_matcher.proofs.LineStartLemmas.{line_start-ascends, line_start-within}
use Rattle.grep_definitions.proofs.MatchCallLemmas.{count_below-few, first-passing, length-passing}
use Rattle.grep_definitions.proofs.MatchCallLemmas.{matches-are_counted, passing}
use Rattle.grep_definitions.proofs.LineSliceLemmas.{number-line}
use Rattle.grep_definitions.proofs.SearchLawLemmas.{reports_end-le}
use Rattle.grep_searcher.specs.Units.{begins_unit, unit_bytes, unit_lines, unit_of}
use Rattle.grep_searcher.specs.Units.{FirstMatchIsFirstUnit, MatchesAreUnits, MatchesAreWithinCount}
use Rattle.grep_searcher.specs.Units.{UnitsAreCounted}
use Rattle.grep_definitions.specs.Plans.{report_surroundings}

-- what is kept of joined lists
pub filter-joined : {X : Type 0} (p : X → Bool) (f : ℕ → List X) (i n : ℕ)
    → filter p (joined_from f i n) ≡ joined_from (λ j. filter p (f j)) i n
filter-joined p f i zero = refl
filter-joined p f i (suc n) =
    filter-append p (f i) (joined_from f (i + 1) n) ∙ ap (λ xs. filter p (f i) ++ xs)
    (filter-joined p f (i + 1) n)

-- the matches of joined calls
matches-joined : (f : ℕ → List Planned) (i n : ℕ) → match_calls (joined_from f i n)
    ≡ joined_from (λ j. match_calls (f j)) i n
matches-joined f i n =
    ap (filter is_match) (map-joined (λ call. call.call) f i n)
    ∙ filter-joined is_match (λ j. map (λ call. call.call) (f j)) i n

module _ (k : Settings) (meaning : Meaning) (bytes : List ℕ) where
  abbrev n : ℕ
  n = line_count k bytes

  abbrev touched : Selection
  touched = touched_lines k meaning bytes

  abbrev selected : ℕ → Bool
  selected = is_touched_selected k meaning bytes

  -- the unit that begins at a line, if one does
  abbrev unit_at : ℕ → List Call
  unit_at i = if begins_unit k meaning bytes i then unit_of k meaning bytes i ∷ [] else []

  match_calls-kind : (i : ℕ) → i < n
      → match_calls (report k bytes touched i (kind k bytes touched i)) ≡ unit_at i
  match_calls-kind i inside =
      go (selected i) (follows_selected k bytes touched i) (precedes_selected k bytes touched i)
      k.passthru
    where
      one : (later : Bool) (end : ℕ) → match_calls (if later then []
          else planned (matches (number k bytes i) (start k bytes i) (unit_bytes k meaning bytes i)
          (report_surroundings k bytes touched i)) end ∷ []) ≡ (if not later then unit_of k meaning bytes i ∷ [] else [])
      one true end = refl
      one false end = ap (λ number. matches number (start k bytes i) (unit_bytes k meaning bytes i)
          (report_surroundings k bytes touched i) ∷ []) (number-line k bytes i inside)

      go : (a b c d : Bool) → match_calls (report k bytes touched i (if a then Some matched
          else (if b then Some (in_context After)
          else (if c then Some (in_context Before)
          else (if d then Some (in_context Other) else None)))))
          ≡ (if a && not (continues k bytes touched i) then unit_of k meaning bytes i ∷ [] else [])
      go true b c d = one (continues k bytes touched i) (count_at k bytes touched i (Some matched))
      go false true c d = refl
      go false false true d = refl
      go false false false true = refl
      go false false false false = refl

  match_calls-line : (i : ℕ) → i < n → match_calls (calls_at k bytes touched i) ≡ unit_at i
  match_calls-line i inside = go (breaks_before k bytes touched i)
      (count_at k bytes touched i (kind k bytes touched i))
    where
      go : (b : Bool) (end : ℕ) → match_calls (if b then planned breaks end
          ∷ report k bytes touched i (kind k bytes touched i)
          else report k bytes touched i (kind k bytes touched i)) ≡ unit_at i
      go true end = match_calls-kind i inside
      go false end = match_calls-kind i inside

  match_calls-units : match_calls (reports_plan k bytes touched).calls
      ≡ map (unit_of k meaning bytes) (unit_lines k meaning bytes)
  match_calls-units =
      matches-joined (calls_at k bytes touched) 0 n
      ∙ joined_from-equal _ unit_at 0 n (λ j low high. match_calls-line j (omega (arith, high)))
      ∙ sym (map-joined (unit_of k meaning bytes) (passing (begins_unit k meaning bytes)) 0 n
      ∙ joined_from-equal _ unit_at 0 n (λ j low high. made j (begins_unit k meaning bytes j)))
    where
      made : (j : ℕ) (b : Bool) → map (unit_of k meaning bytes) (if b then j ∷ [] else [])
          ≡ (if b then unit_of k meaning bytes j ∷ [] else [])
      made j true = refl
      made j false = refl

  -- the first selected line begins a unit
  first-begun : first_below (begins_unit k meaning bytes) n ≡ first_below selected n
  first-begun = go (first_below selected n) refl
    where
      fresh : (a b c s : Bool) → s ≡ true → (b ≡ true → c ≡ false) → (s && not (a && b && c)) ≡ true
      fresh a b c false is none = absurd (false≢true is)
      fresh false b c true is none = refl
      fresh true false c true is none = refl
      fresh true true false true is none = refl
      fresh true true true true is none = absurd (let never = none refl in cc)

      unbegun : (j : ℕ) → selected j ≡ false → begins_unit k meaning bytes j ≡ false
      unbegun j none = rw none refl

      go : (found : Option ℕ) → first_below selected n ≡ found
          → first_below (begins_unit k meaning bytes) n ≡ found
      go None is =
          let none = first_below-none selected n is in
          first_below-nowhere (begins_unit k meaning bytes) n
          (some_below-none _ n (λ j less. unbegun j (some_below-false selected n j none less)))
      go (Some q) is =
          let here = first_below-of selected n q is in
          first_below-here (begins_unit k meaning bytes) n q here.0
          (fresh touched.joined (nat_lt 0 q) (selected (q - 1)) (selected q) here.1
          (λ above. let low = ltb-true 0 q above in first_below-before selected n q (q - 1) is
          (omega arith)))
          (some_below-none _ q (λ j less. unbegun j (first_below-before selected n q j is less)))

-- the plan of a search, by the mode
abbrev plan_in : Settings → Meaning → List ℕ → Bool → List Call
plan_in k meaning bytes across =
    match_calls (reports_plan k bytes (selection_in k meaning bytes across)).calls

pub matches-are_units : MatchesAreUnits
matches-are_units k meaning bytes across =
    ap (plan_in k meaning bytes) across ∙ match_calls-units k meaning bytes

pub units-are_counted : UnitsAreCounted
units-are_counted k meaning bytes across =
    ap length (matches-are_units k meaning bytes across)
    ∙ length-map (unit_lines k meaning bytes) (unit_of k meaning bytes)
    ∙ length-passing (begins_unit k meaning bytes) (line_count k bytes)

pub first_match-is_first_unit : FirstMatchIsFirstUnit
first_match-is_first_unit k meaning bytes across =
    ap (λ xs. slice_get xs 0) (matches-are_units k meaning bytes across)
    ∙ slice_get-map (unit_of k meaning bytes) (unit_lines k meaning bytes) 0
    ∙ ap (option_map (unit_of k meaning bytes))
    (first-passing (begins_unit k meaning bytes) (line_count k bytes) ∙ first-begun k meaning bytes)

-- a line begins no earlier than as many bytes as there are lines before it
pub start-high : (t : ℕ) (bytes : List ℕ) (i : ℕ) → i ≤ length (lines t bytes) → i
    ≤ line_start t bytes i
start-high t bytes zero inside = omega arith
start-high t bytes (suc i) inside =
    let next : suc i ≡ i + 1 = omega arith in
    let below : i < length (lines t bytes) = omega (arith, inside) in
    let low : i ≤ length (lines t bytes) = omega (arith, inside) in
    omega (
      arith,
      ap (line_start t bytes) next,
      start-high t bytes i low,
      line_start-ascends t bytes i below,
    )

pub matches-are_within_count : MatchesAreWithinCount
matches-are_within_count k meaning bytes = go (is_across k meaning) refl
  where
    -- the byte count is where the lines end that may be reported
    count : (across : Bool) → is_across k meaning ≡ across
        → (search_plan k meaning bytes).finish.count
        ≡ start k bytes (selection_in k meaning bytes across).end
    count across is = ap (λ b. (reports_plan k bytes (selection_in k meaning bytes b)).finish.count)
        is

    go : (across : Bool) → is_across k meaning ≡ across
        → (length (match_calls (search_plan k meaning bytes).calls)
        ≤ (search_plan k meaning bytes).finish.count)
        × ((search_plan k meaning bytes).finish.count ≤ length bytes)
    go false is =
        let end = reports_end k meaning bytes in
        let t = byte_of k.line_terminator in (
          omega (
            arith,
            count false is,
            matches-are_counted k meaning bytes is,
            count_below-few (is_matched k meaning bytes) end,
            start-high t bytes end (reports_end-le k meaning bytes),
          ),
          omega (arith, count false is, line_start-within t bytes end),
        )
    go true is =
        let end = line_count k bytes in
        let t = byte_of k.line_terminator in (
          omega (
            arith,
            count true is,
            units-are_counted k meaning bytes is,
            count_below-few (begins_unit k meaning bytes) end,
            start-high t bytes end (omega arith),
          ),
          omega (arith, count true is, line_start-within t bytes end),
        )
