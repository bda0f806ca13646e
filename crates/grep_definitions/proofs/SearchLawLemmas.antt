-- What the calls of a line, and of the lines together, tell.
use Rattle.grep_definitions.specs.Plans.{calls_at, end_by_limit, end_by_stop, line_plan}
use Rattle.grep_definitions.specs.Plans.{reports_end, selected_lines, planned, Call, Planned}
use Rattle.grep_definitions.specs.Plans.{matches, context, breaks, reported_bytes, reported_from}
use Rattle.grep_definitions.specs.Plans.{Settings, count_below, first_below, has_room, at_most}
use Rattle.grep_definitions.specs.Plans.{joined_from, Kind, matched, in_context, Selection}
use Rattle.grep_definitions.specs.Plans.{breaks_before, count_at, follows_selected, hits, is_chosen}
use Rattle.grep_definitions.specs.Plans.{is_open_at, is_reported, is_selected, is_trailing}
use Rattle.grep_definitions.specs.Plans.{line_count, number, precedes_selected, report}
use Rattle.grep_definitions.specs.Plans
use Rattle.std.proofs.Common.{◌≡◌, ℕ, zero, suc, ◌+◌, ◌-◌, ◌<◌, ◌≤◌, Bool, true, false, List, []}
use Rattle.std.proofs.Common.{◌∷◌, length, slice_index, refl, sym, ap, subst, ◌∙◌, arith, ◌⊎◌, inl}
use Rattle.std.proofs.Common.{inr, ⊎_elim, Option, Some, None, if◌then◌else◌}
use Rattle.std.proofs.Math.Bool.{and-false}
use Rattle.std.proofs.lemmas.Bool.{le-leb, leb-true, lt-ltb, cases_Bool, cases_lt, and_parts}
use Rattle.std.proofs.lemmas.Bool.{not-true, or_cases}
use Rattle.std.proofs.lemmas.List.Sums.{sum_by-append}
use Rattle.std.specs.Prelude.{nat_lt, ◌&&◌, ◌||◌, not, is_some, count_by, cond}
use Rattle.std.specs.List.Sorted.{IsStrictlyIncreasing}
use Rattle.grep_matcher.specs.Lines.{byte_of}
use Rattle.grep_matcher.specs.Meanings.{Meaning}
use Rattle.grep_report.specs.declared.sink_context.SinkContextKind.TheVariants.{Before, After}
use Rattle.grep_report.specs.declared.sink_context.SinkContextKind.TheVariants.{Other}
use Rattle.grep_definitions.proofs.LineSliceLemmas.{line-report, slice-line}
use Rattle.grep_definitions.specs.SearchLaws.{AreReportsInOrder, is_match, is_matched, report_calls}
use Rattle.grep_definitions.proofs.BelowLemmas.{some_below-some, some_below-false, some_below-find}
use Rattle.grep_definitions.proofs.BelowLemmas.{first_below-before, first_below-none}
use Rattle.grep_definitions.proofs.BelowLemmas.{first_below-of, count_below-either, count_below-le}
use Rattle.grep_definitions.proofs.BelowLemmas.{count_below-none, count_below-within, room-le}
use Rattle.grep_definitions.proofs.BelowLemmas.{joined_from-more}
use Rattle.grep_matcher.proofs.LineStartLemmas.{line_start-ascends, line_start-more}
use Rattle.grep_definitions.proofs.BoolLemmas.{clash}
use Rattle.grep_definitions.proofs.ReportOrderLemmas.{IsReported, in_order-joined, report_calls-broken}
use Rattle.grep_report.specs.SinkReports.{no_surroundings}

-- as many numbers pass as pass the weaker test, or fewer
pub count_below-weaker : (p q : ℕ → Bool) (n : ℕ) → ((j : ℕ) → p j ≡ true → q j ≡ true)
    → count_below p n ≤ count_below q n
count_below-weaker p q zero weaker = omega arith
count_below-weaker p q (suc n) weaker = grind (arith, count_below-weaker p q n weaker)

-- a number in front of larger ones
pub IsStrictlyIncreasing-cons : (x : ℕ) (xs : List ℕ) → IsStrictlyIncreasing xs
    → (0 < length xs → x < slice_index xs 0) → IsStrictlyIncreasing (x ∷ xs)
IsStrictlyIncreasing-cons x xs rises above zero below = above (omega arith)
IsStrictlyIncreasing-cons x xs rises above (suc i) below = let next : suc i + 1 ≡ suc (i + 1) =
    omega arith in
    rw next (rises i (omega arith))

-- offsets that ascend, from a bound on
abbrev pub AscendFrom : ℕ → List ℕ → Type 0
AscendFrom low offsets = IsStrictlyIncreasing offsets
    × (0 < length offsets → low ≤ slice_index offsets 0)

-- how many matches some calls report
abbrev pub matches_in : List Planned → ℕ
matches_in = count_by (λ call. is_match call.call)

-- some first lines report no more matches than numbers pass, if a line reports one at most, and
-- only if its number passes
pub matches-joined : (f : ℕ → List Planned) (p : ℕ → Bool)
    → ((i : ℕ) → matches_in (f i) ≤ (if p i then 1 else 0)) → (m : ℕ)
    → matches_in (joined_from f 0 m) ≤ count_below p m
matches-joined f p one zero = omega arith
matches-joined f p one (suc m) =
    let next : suc m ≡ m + 1 = omega arith in
    let sum : 0 + m ≡ m = omega arith in
    let more : matches_in (joined_from f 0 (suc m)) ≡ matches_in (joined_from f 0 m)
    + matches_in (f m) =
    ap (λ x. matches_in (joined_from f 0 x)) next ∙ ap matches_in (joined_from-more f 0 m)
    ∙ sum_by-append (λ call. cond (is_match call.call) 1 0) (joined_from f 0 m) (f (0 + m))
    ∙ ap (λ x. matches_in (joined_from f 0 m) + matches_in (f x)) sum in
    let P : ℕ → Type 0 = λ x. x ≤ count_below p (suc m) in
    subst P (sym more) (go (p m) (one m) (matches-joined f p one m))
  where
    go : (b : Bool) → matches_in (f m) ≤ (if b then 1 else 0) → matches_in (joined_from f 0 m)
        ≤ count_below p m → matches_in (joined_from f 0 m) + matches_in (f m)
        ≤ (if b then count_below p m + 1 else count_below p m)
    go true here before = omega arith
    go false here before = omega arith

-- no more numbers pass than a limit has, if each passes only while fewer before it do
pub count_below-limited : (k : Settings) (p : ℕ → Bool) (limit m : ℕ) → has_room k limit ≡ false
    → count_below (λ i. p i && has_room k (count_below p i)) m ≤ limit
count_below-limited k p limit zero shut = omega arith
count_below-limited k p limit (suc m) shut =
    grind (
      arith,
      count_below-weaker,
      and_parts,
      clash,
      room-le,
      cases_lt,
      count_below-limited k p
          limit m shut,
    )

-- which kind of report a line has
pub kind-matched : (a b t c d : Bool) → (if a then Some matched
    else (if b then Some (if t then matched else in_context After)
    else (if c then Some (in_context Before) else (if d then Some (in_context Other) else None))))
    ≡ Some matched → (a || (b && t)) ≡ true
kind-matched true b t c d is = refl
kind-matched false true true c d is = refl
kind-matched false true false c d is = cc
kind-matched false false t true d is = cc
kind-matched false false t false true is = cc
kind-matched false false t false false is = cc

-- across lines none is trailing
pub kind-selected : (a b c d : Bool) → (if a then Some matched
    else (if b then Some (in_context After)
    else (if c then Some (in_context Before) else (if d then Some (in_context Other) else None))))
    ≡ Some matched → a ≡ true
kind-selected a b c d is = grind arith

module _ (k : Settings) (meaning : Meaning) (bytes : List ℕ) where
  abbrev selection : Selection
  selection = selected_lines k meaning bytes

  -- how many lines there are, where each starts, whether it is chosen, and its calls
  abbrev n : ℕ
  n = line_count k bytes

  abbrev start : ℕ → ℕ
  start = Plans.start k bytes

  abbrev chosen : ℕ → Bool
  chosen = is_chosen k meaning bytes

  abbrev selected : ℕ → Bool
  selected = is_selected k meaning bytes

  abbrev is_open : ℕ → Bool
  is_open = is_open_at k meaning bytes

  abbrev T : ℕ → List Planned
  T = calls_at k bytes selection

  -- no more lines may be reported than there are
  pub reports_end-le : reports_end k meaning bytes ≤ n
  reports_end-le = grind arith

  -- a line after a selected one follows it
  follows-near : (i j : ℕ) → selected j ≡ true → j < i → i - j ≤ k.after_context
      → follows_selected k bytes selection i ≡ true
  follows-near i j hit less close = let near =
      le-leb (i - j) k.after_context close in some_below-some _ i j less (rw (near, hit) refl)

  -- and so is reported, if it may be
  shown-near : (i j : ℕ) → i < reports_end k meaning bytes → selected j ≡ true → j ≤ i
      → i - j ≤ k.after_context → is_reported k bytes selection i ≡ true
  shown-near i j has hit low close = ⊎_elim
      (λ less. let here = lt-ltb i _ has in let follows = follows-near i j hit less close in rw
      (here, follows) (some (selected i)))
      (λ same. let here = lt-ltb i _ has in let own : selected i ≡ true = ap selected (one same)
      ∙ hit in rw (here, own) refl) (cases_lt j i)
    where
      one : i ≤ j → i ≡ j
      one same = omega arith

      some : (a : Bool) → is_some (if a then Some matched
          else Some (if is_trailing k meaning bytes i then matched else in_context After)) ≡ true
      some true = refl
      some false = refl

  -- a line after a selected one that isn't selected itself, is reported as the line after it, and
  -- as a match if it is trailing
  pub calls_at-follows : (i j : ℕ) → i < reports_end k meaning bytes → selected i ≡ false
      → selected j ≡ true → j < i → i - j ≤ k.after_context → T i
      ≡ planned (if is_trailing k meaning bytes i then matches (number k bytes i) (start
      i) (Plans.line k bytes i) no_surroundings else context After (number k bytes i) (start i)
      (Plans.line k bytes i)) (start (i + 1)) ∷ []
  calls_at-follows i j has misses hit less close = go (is_trailing k meaning bytes i) refl
    where
      is_kind : Plans.kind k bytes selection i ≡ Some
          (if is_trailing k meaning bytes i then matched else in_context After)
      is_kind = let follows = follows-near i j hit less close in rw (misses, follows) refl

      shown : is_reported k bytes selection (i - 1) ≡ true
      shown = shown-near (i - 1) j (omega arith) hit (omega arith) (omega arith)

      go : (t : Bool) → is_trailing k meaning bytes i ≡ t → T i
          ≡ planned (if t then matches (number k bytes i) (start i) (Plans.line k bytes
          i) no_surroundings else context After (number k bytes i) (start i) (Plans.line k bytes i))
          (start (i + 1)) ∷ []
      go true is =
          let kind = is_kind ∙ ap (λ b. Some (if b then matched else in_context After)) is in
          rw (kind, shown, and-false (nat_lt 0 (k.after_context + k.before_context) && true))
          (line-report k bytes meaning i)
      go false is =
          let kind = is_kind ∙ ap (λ b. Some (if b then matched else in_context After)) is in
          rw (kind, and-false (nat_lt 0 (k.after_context + k.before_context))) refl

  -- a line has one report at most, of its bytes
  reported-line : (i : ℕ) → i < n → (report_calls (T i) ≡ []) ⊎ IsReported T start i
  reported-line i inside = go (Plans.kind k bytes selection i)
      (report_calls-broken (breaks_before k bytes selection i) _ _)
    where
      one : (call : Call) → report_calls (T i) ≡ call ∷ [] → reported_from call ≡ start i
          → reported_bytes call ≡ Plans.line k bytes i → IsReported T start i
      one call is from own = record {
        call = call;
        next = i + 1;
        reports = is;
        later = omega arith;
        above = line_start-ascends (byte_of k.line_terminator) bytes i inside;
        from = from;
        to = omega (
          arith,
          ap length own,
          line_start-more (byte_of k.line_terminator) bytes i inside,
        );
        alone = λ j above below. absurd (omega arith);
      }

      go : (o : Option Kind) → report_calls (T i) ≡ report_calls (report k bytes selection i o)
          → (report_calls (T i) ≡ []) ⊎ IsReported T start i
      go None is = inl is
      go (Some matched) is = inr (one _ is refl (slice-line k bytes i))
      go (Some (in_context c)) is = inr (one _ is refl refl)

  -- the reports ascend
  pub in_order-by_line : AreReportsInOrder (report_calls (line_plan k meaning bytes).calls)
  in_order-by_line = in_order-joined T start (reports_end k meaning bytes)
      (λ i below. line_start-ascends (byte_of k.line_terminator) bytes i
      (omega (arith, reports_end-le))) (λ i below. reported-line i (omega (arith, reports_end-le)))

  -- whether a line is trailing in the context after a selected line
  abbrev late : ℕ → Bool
  late i = follows_selected k bytes selection i && is_trailing k meaning bytes i

  -- a report tells one match at most, and only where its line is a match
  matches-report : (i : ℕ) (kind : Option Kind) → Plans.kind k bytes selection i ≡ kind
      → matches_in (report k bytes selection i kind) ≤ (if is_matched k meaning bytes i then 1
      else 0)
  matches-report i None is = omega arith
  matches-report i (Some matched) is = grind (arith, kind-matched)
  matches-report i (Some (in_context c)) is = omega arith

  -- only such a line is reported as a match, and once
  matches-line : (i : ℕ) → matches_in (T i) ≤ (if is_matched k meaning bytes i then 1 else 0)
  matches-line i = go (breaks_before k bytes selection i)
    where
      go : (b : Bool) → matches_in (if b then (planned breaks
          (count_at k bytes selection i (Plans.kind k bytes selection i)))
          ∷ report k bytes selection i (Plans.kind k bytes selection i)
          else report k bytes selection i
          (Plans.kind k bytes selection i)) ≤ (if is_matched k meaning bytes i then 1 else 0)
      go true = matches-report i (Plans.kind k bytes selection i) refl
      go false = matches-report i (Plans.kind k bytes selection i) refl

  chosen-few : (limit m : ℕ) → has_room k limit ≡ false → count_below chosen m ≤ limit
  chosen-few limit m = count_below-limited k (hits k meaning bytes) limit m

  -- what a late line has: a selected line before it in reach, before which the limit had room, as
  -- it hasn't there
  record IsLate (i : ℕ) : Type 0 where
    line : ℕ
    before : line < i
    near : i - line ≤ k.after_context
    chosen : chosen line ≡ true
    room : is_open line ≡ true
    shut : is_open i ≡ false

  late-is : (i : ℕ) → late i ≡ true → IsLate i
  late-is i is = grind (arith, and_parts, some_below-find, leb-true, not-true)

  -- the limit has no room after a line before which it has none
  shut-later : (i j : ℕ) → i ≤ j → is_open i ≡ false → is_open j ≡ false
  shut-later i j low shut =
      room-le k _ _ (count_below-le (hits k meaning bytes) i j low) shut

  -- there are at most as many late lines as lines in the context
  late-few : (m : ℕ) → count_below late m ≤ k.after_context
  late-few m = go (first_below (λ i. not (is_open i)) m) refl
    where
      go : (found : Option ℕ) → first_below (λ i. not (is_open i)) m ≡ found → count_below late m
          ≤ k.after_context
      go None is =
          let none = first_below-none (λ i. not (is_open i)) m is in
          omega (
            arith,
            count_below-within late m 0 m (λ i less yes. absurd (clash (ap not (late-is i yes).shut)
                (some_below-false (λ i. not (is_open i)) m i none less))),
          )
      go (Some first) is =
          let shut = not-true (is_open first) (first_below-of (λ i. not (is_open i)) m first is).1
          in
          omega (
            arith,
            count_below-within late first k.after_context m (λ i less yes.
                let late = late-is i yes in
                let low : first ≤ i = ⊎_elim
                (λ early. absurd (clash (ap not late.shut)
                (first_below-before (λ i. not (is_open i)) m first i is early))) (λ over. over)
                (cases_lt i first) in
                let high : late.line < first = ⊎_elim
                (λ early. early)
                (λ over. absurd (clash late.room (shut-later first late.line over shut)))
                (cases_lt late.line first) in
                (low, omega (arith, late.near, late.before))),
          )

  -- the calls tell no more matches than the limit has and those in the context after the last of
  -- them, and none at limit 0
  pub matches-few : (limit m : ℕ) → has_room k limit ≡ false
      → matches_in (joined_from T 0 m) ≤ (if nat_lt 0 limit then limit + k.after_context else 0)
  matches-few limit m is = go limit is (omega (
    arith,
    matches-joined T (is_matched k meaning bytes) matches-line m,
    count_below-either chosen late (is_matched k meaning bytes) m either,
  ))
    where
      either : (i : ℕ) → is_matched k meaning bytes i ≡ true → (chosen i ≡ true) ⊎ (late i ≡ true)
      either i here = ⊎_elim (λ taken. inl (and_parts (chosen i) _ taken).0) (λ after. inr after)
          (or_cases (selected i) (late i) here)

      unchosen : (i : ℕ) → chosen i ≡ true → count_below chosen (suc i) ≡ 0 → ⊥
      unchosen i taken none =
          let some : count_below chosen (suc i) ≡ count_below chosen i + 1 = rw taken refl in
          absurd (omega (arith, sym some ∙ none))

      go : (limit : ℕ) → has_room k limit ≡ false → matches_in (joined_from T 0 m)
          ≤ count_below chosen m + count_below late m
          → matches_in (joined_from T 0 m) ≤ (if nat_lt 0 limit then limit + k.after_context else 0)
      go zero is few =
          let none : (n : ℕ) → count_below chosen n ≡ 0 = λ n. omega (arith, chosen-few 0 n is) in
          omega (
            arith,
            few,
            none m,
            count_below-none late m (λ i. ⊎_elim (λ yes. let late = late-is i yes in absurd
                (unchosen late.line late.chosen (none (suc late.line)))) (λ no. no)
                (cases_Bool (late i))),
          )
      go (suc limit) is few =
          let some = lt-ltb 0 (suc limit) (omega arith) in
          rw some (omega (arith, few, chosen-few (suc limit) m is, late-few m))
