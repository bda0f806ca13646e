-- The matches that are reported, and the matched lines: those that are selected, or trailing after
-- a selected one.
use Rattle.grep_definitions.specs.Plans.{end_by_limit, end_by_stop, line_plan, reports_end}
use Rattle.grep_definitions.specs.Plans.{selected_lines, planned, Call, Planned, breaks, matches}
use Rattle.grep_definitions.specs.Plans.{Settings, some_below, count_below, first_below}
use Rattle.grep_definitions.specs.Plans.{joined_from, in_context, has_room, Selection}
use Rattle.grep_definitions.specs.Plans.{breaks_before, calls_at, count_at, ends_search}
use Rattle.grep_definitions.specs.Plans.{fills_limit, follows_selected, is_chosen, is_selected}
use Rattle.grep_definitions.specs.Plans.{is_trailing, kind, line, line_count, matched}
use Rattle.grep_definitions.specs.Plans.{precedes_selected, start}
use Rattle.grep_definitions.specs.Plans
use Rattle.std.proofs.Math.Bool.{and-false}
use Rattle.std.proofs.Common.{◌≡◌, ℕ, zero, suc, ◌+◌, ◌<◌, ◌≤◌, Bool, true, false, ◌&&◌, ◌||◌}
use Rattle.std.proofs.Common.{List, [], ◌∷◌, ◌++◌, length, refl, sym, ◌∙◌, ap, arith, ⊎_elim}
use Rattle.std.proofs.Common.{Option, Some, None, if◌then◌else◌}
use Rattle.std.proofs.lemmas.Bool.{cases_lt, and_parts, not-true}
use Rattle.std.proofs.lemmas.List.{map-append, length-append, length-map}
use Rattle.std.proofs.lemmas.List.Elements.{filter-append}
use Rattle.std.proofs.lemmas.Option.{slice_get-map}
use Rattle.std.specs.Prelude.{IfSome, map, slice_get}
use Rattle.std.specs.Option.{option_map}
use Rattle.grep_matcher.specs.Lines.{byte_of}
use Rattle.grep_matcher.specs.Meanings.{Meaning}
use Rattle.grep_lines.proofs.LineStepLemmas.{lines-numbered}
use Rattle.grep_report.specs.declared.sink_context.SinkContextKind.TheVariants.{Before, After}
use Rattle.grep_report.specs.declared.sink_context.SinkContextKind.TheVariants.{Other}
use Rattle.grep_definitions.proofs.LineSliceLemmas.{line-report}
use Rattle.grep_definitions.specs.SearchLaws.{is_matched, match_calls, match_of}
use Rattle.grep_definitions.specs.SearchLaws.{matched_lines, FirstMatchIsFirst, MatchesAreCounted}
use Rattle.grep_definitions.specs.SearchLaws.{MatchesAreMatchedLines}
use Rattle.grep_definitions.proofs.BoolLemmas.{clash}
use Rattle.grep_definitions.proofs.BelowLemmas.{first_below-before, first_below-here}
use Rattle.grep_definitions.proofs.BelowLemmas.{first_below-of, first_below-late, first_below-more}
use Rattle.grep_definitions.proofs.BelowLemmas.{first_below-none, first_below-nowhere}
use Rattle.grep_definitions.proofs.BelowLemmas.{some_below-false, some_below-none, count_below-le}
use Rattle.grep_definitions.proofs.BelowLemmas.{at_most-above, joined_from-more, joined_from-equal}
use Rattle.grep_definitions.proofs.BelowLemmas.{room-le, room-first}
use Rattle.grep_definitions.proofs.SearchLawLemmas.{reports_end-le}
use Rattle.grep_definitions.proofs.SearchModeLemmas.{plan-by_line}
use Rattle.grep_report.specs.SinkReports.{no_surroundings}

-- the numbers below n that pass, each as a list of one
abbrev pub passing : (ℕ → Bool) → ℕ → List ℕ
passing p i = if p i then i ∷ [] else []

-- as many numbers pass as are listed
pub length-passing : (p : ℕ → Bool) (n : ℕ) → length (joined_from (passing p) 0 n) ≡ count_below p n
length-passing p zero = refl
length-passing p (suc n) =
    let next : suc n ≡ n + 1 = omega arith in
    let sum : 0 + n ≡ n = omega arith in
    ap (λ m. length (joined_from (passing p) 0 m)) next
    ∙ ap length (joined_from-more (passing p) 0 n)
    ∙ length-append (joined_from (passing p) 0 n) (passing p (0 + n))
    ∙ (rw (sum, length-passing p n) (go (p n)))
  where
    go : (b : Bool) → count_below p n + length (if b then n ∷ [] else [])
        ≡ (if b then count_below p n + 1 else count_below p n)
    go true = refl
    go false = omega arith

-- the first that is listed is the first that passes
slice_get-front : (xs ys : List ℕ) (x : ℕ) → slice_get xs 0 ≡ Some x → slice_get (xs ++ ys) 0
    ≡ Some x
slice_get-front [] ys x is = cc
slice_get-front (y ∷ xs) ys x is = is

slice_get-back : (xs ys : List ℕ) → slice_get xs 0 ≡ None → slice_get (xs ++ ys) 0 ≡ slice_get ys 0
slice_get-back [] ys is = refl
slice_get-back (y ∷ xs) ys is = cc

pub first-passing : (p : ℕ → Bool) (n : ℕ) → slice_get (joined_from (passing p) 0 n) 0
    ≡ first_below p n
first-passing p zero = refl
first-passing p (suc n) =
    let next : suc n ≡ n + 1 = omega arith in
    let sum : 0 + n ≡ n = omega arith in
    ap (λ m. slice_get (joined_from (passing p) 0 m) 0) next
    ∙ ap (λ xs. slice_get xs 0) (joined_from-more (passing p) 0 n)
    ∙ (rw sum (go (first_below p n) refl (first-passing p n)))
  where
    last : (b : Bool) → slice_get (if b then n ∷ [] else []) 0 ≡ (if b then Some n else None)
    last true = refl
    last false = refl

    go : (found : Option ℕ) → first_below p n ≡ found → slice_get (joined_from (passing p) 0 n) 0
        ≡ first_below p n
        → slice_get (joined_from (passing p) 0 n ++ passing p n) 0 ≡ first_below p (suc n)
    go x0 x1 x2 =
        grind (arith, first_below-none, slice_get-back, last, slice_get-front, first_below-more)

-- what is made of each number that passes
map-passing : {X : Type 0} (f : ℕ → X) (p : ℕ → Bool) (i n : ℕ)
    → map f (joined_from (passing p) i n) ≡ joined_from (λ j. if p j then f j ∷ [] else []) i n
map-passing f p i zero = refl
map-passing f p i (suc n) = grind (arith, map-append, map-passing f p (i + 1) n)

-- the matches of joined calls
match_calls-append : (front back : List Planned) → match_calls (front ++ back) ≡ match_calls front
    ++ match_calls back
match_calls-append front back = grind (arith, map-append, filter-append)

match_calls-joined : (f : ℕ → List Planned) (i n : ℕ) → match_calls (joined_from f i n)
    ≡ joined_from (λ j. match_calls (f j)) i n
match_calls-joined f i zero = refl
match_calls-joined f i (suc n) = grind (arith, match_calls-append, match_calls-joined f (i + 1) n)

module _ (k : Settings) (meaning : Meaning) (bytes : List ℕ) where
  abbrev selection : Selection
  selection = selected_lines k meaning bytes

  abbrev n : ℕ
  n = line_count k bytes

  abbrev hits : ℕ → Bool
  hits = Plans.hits k meaning bytes

  abbrev selected : ℕ → Bool
  selected = is_selected k meaning bytes

  abbrev fills : ℕ → Bool
  fills = fills_limit k meaning bytes

  -- a selected line comes before each bound of the reports
  stop-bound : (i : ℕ) → selected i ≡ true → IfSome (end_by_stop k meaning bytes) (λ b. i < b)
  stop-bound i taken = grind (arith, not-true, and_parts, first_below-late)

  limit-bound : (i : ℕ) → is_chosen k meaning bytes i ≡ true
      → IfSome (end_by_limit k meaning bytes) (λ b. i < b)
  limit-bound i taken = go k.passthru (has_room k 0) refl (first_below fills n) refl
    where
      room : has_room k (count_below hits i) ≡ true
      room = (and_parts (hits i) _ taken).1

      late : (m : ℕ) → fills m ≡ true → i ≤ m
      late m full =
          let parts = and_parts (is_chosen k meaning bytes m) _ full in
          let hit : hits m ≡ true = (and_parts (hits m) _ parts.0).0 in
          let next : count_below hits m + 1 ≡ count_below hits (suc m) = rw hit refl in
          ⊎_elim (λ before. absurd (clash room (room-le k _ _
          (omega (arith, next, count_below-le hits (suc m) i (omega arith))) (not-true _ parts.1))))
          (λ over. over) (cases_lt m i)

      go : (s some : Bool) → has_room k 0 ≡ some → (found : Option ℕ) → first_below fills n ≡ found
          → IfSome (if s then None else (if some
          then option_map (λ m. suc (m + k.after_context)) found else Some 0)) (λ b. i < b)
      go x0 x1 x2 x3 x4 = grind (arith, late, first_below-of, clash, room-first, room)

  -- it is one of the lines
  selected-inside : (i : ℕ) → selected i ≡ true → i < n
  selected-inside i taken = grind arith

  -- so it may be reported
  pub selected-reportable : (i : ℕ) → selected i ≡ true → i < reports_end k meaning bytes
  selected-reportable i taken =
      let chosen = and_parts (is_chosen k meaning bytes i) _ taken in
      at_most-above (end_by_limit k meaning bytes) i _ (limit-bound i chosen.0)
      (at_most-above (end_by_stop k meaning bytes) i n (stop-bound i taken)
      (selected-inside i taken))

  -- how many lines may be reported
  abbrev reportable : ℕ
  reportable = reports_end k meaning bytes

  -- the match of a line, if it is one
  abbrev match_at : ℕ → List Call
  match_at i = if is_matched k meaning bytes i then match_of k bytes i ∷ [] else []

  match_calls-kind : (i : ℕ) → i < n
      → match_calls (Plans.report k bytes selection i (kind k bytes selection i)) ≡ match_at i
  match_calls-kind i inside =
      go (selected i) (follows_selected k bytes selection i) (is_trailing k meaning bytes i)
      (precedes_selected k bytes selection i) k.passthru
    where
      one : match_calls (Plans.report k bytes selection i (Some matched)) ≡ match_of k bytes i ∷ []
      one = ap match_calls (line-report k bytes meaning i)
          ∙ ap (λ number. matches number (start k bytes i) (line k bytes i) no_surroundings ∷ [])
          (rw (lines-numbered (byte_of k.line_terminator) bytes i inside) refl)

      go : (a b t c d : Bool)
          → match_calls (Plans.report k bytes selection i (if a then Some matched
          else (if b then Some (if t then matched else in_context After)
          else (if c then Some (in_context Before)
          else (if d then Some (in_context Other) else None)))))
          ≡ (if a || (b && t) then match_of k bytes i ∷ [] else [])
      go x0 x1 x2 x3 x4 = grind (arith, one)

  match_calls-line : (i : ℕ) → i < n → match_calls (calls_at k bytes selection i) ≡ match_at i
  match_calls-line i inside = grind (arith, match_calls-kind)

  -- the matches are those of the matched lines
  pub match_calls-plan : match_calls (line_plan k meaning bytes).calls
      ≡ map (match_of k bytes) (matched_lines k meaning bytes)
  match_calls-plan =
      match_calls-joined (calls_at k bytes selection) 0 reportable
      ∙ joined_from-equal _ match_at 0 reportable (λ j low high. match_calls-line j
      (omega (arith, reports_end-le k meaning bytes)))
      ∙ sym (map-passing (match_of k bytes) (is_matched k meaning bytes) 0 reportable)

  pub length-match_calls : length (match_calls (line_plan k meaning bytes).calls)
      ≡ count_below (is_matched k meaning bytes) reportable
  length-match_calls = search (arith, match_calls-plan, length-map, length-passing)

  -- the first matched line is the first selected one
  first-matched : first_below (is_matched k meaning bytes) reportable ≡ first_below selected n
  first-matched = go (first_below selected n) refl
    where
      -- before the first selected line, no line is matched
      unmatched : (j : ℕ) → ((i : ℕ) → i ≤ j → selected i ≡ false) → is_matched k meaning bytes j
          ≡ false
      unmatched j none = grind (arith, some_below-none, and-false)

      go : (found : Option ℕ) → first_below selected n ≡ found
          → first_below (is_matched k meaning bytes) reportable ≡ found
      go None is =
          let none = first_below-none selected n is in
          first_below-nowhere (is_matched k meaning bytes) reportable (some_below-none _ reportable
          (λ j less. unmatched j (λ i low. some_below-false selected n i none
          (omega (arith, reports_end-le k meaning bytes)))))
      go (Some q) is =
          let taken = (first_below-of selected n q is).1 in
          first_below-here (is_matched k meaning bytes) reportable q (selected-reportable q taken)
          (rw taken refl) (some_below-none _ q
          (λ j less. unmatched j (λ i low. first_below-before selected n q i is (omega arith))))

  pub first-match_calls : slice_get (match_calls (line_plan k meaning bytes).calls) 0
      ≡ option_map (match_of k bytes) (first_below selected n)
  first-match_calls =
      ap (λ xs. slice_get xs 0) match_calls-plan ∙ slice_get-map (match_of k bytes)
      (matched_lines k meaning bytes) 0
      ∙ ap (option_map (match_of k bytes)) (first-passing (is_matched k meaning bytes) reportable
      ∙ first-matched)

-- no more numbers pass than there are
pub count_below-few : (p : ℕ → Bool) (n : ℕ) → count_below p n ≤ n
count_below-few p zero = omega arith
count_below-few p (suc n) = grind (arith, count_below-few p n)

-- by line these are the matched lines, as many, and the first is the first selected line
pub matches-are_matched_lines : MatchesAreMatchedLines
matches-are_matched_lines k meaning bytes by_line = grind (arith, plan-by_line, match_calls-plan)

pub matches-are_counted : MatchesAreCounted
matches-are_counted k meaning bytes by_line = grind (arith, plan-by_line, length-match_calls)

pub first_match-is_first : FirstMatchIsFirst
first_match-is_first k meaning bytes by_line = grind (arith, plan-by_line, first-match_calls)
