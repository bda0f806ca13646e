-- The calls of the first lines begin the calls of all.
use Rattle.grep_definitions.specs.Plans.{can_break, end_by_limit, end_by_stop, line_plan}
use Rattle.grep_definitions.specs.Plans.{reports_end, selected_lines, planned, Call, Planned}
use Rattle.grep_definitions.specs.Plans.{begins, breaks, matches, context, Settings, some_below}
use Rattle.grep_definitions.specs.Plans.{first_below, at_most, joined_from, Kind, matched}
use Rattle.grep_definitions.specs.Plans.{in_context, has_room, through, Selection, breaks_before}
use Rattle.grep_definitions.specs.Plans.{calls_at, calls_before, count_at, ends_search, fills_limit}
use Rattle.grep_definitions.specs.Plans.{follows_selected, is_reported, is_selected, is_trailing}
use Rattle.grep_definitions.specs.Plans.{kind, line_count, next_report_end, precedes_selected}
use Rattle.grep_definitions.specs.Plans
use Rattle.std.proofs.Common.{◌≡◌, ℕ, zero, suc, ◌+◌, ◌-◌, ◌<◌, ◌≤◌, min, Bool, true, false, ◌&&◌}
use Rattle.std.proofs.Common.{not, List, [], ◌∷◌, ◌++◌, length, refl, sym, ap, subst, ◌∙◌, arith}
use Rattle.std.proofs.Common.{inl, inr, ◌⊎◌, ⊎_elim, Option, Some, None, length-append}
use Rattle.std.proofs.Common.{append-nil, if◌then◌else◌}
use Rattle.std.proofs.Math.Bool.{and-false}
use Rattle.std.proofs.lemmas.Bool.{lt-ltb, ltb-true, leb-true, le-leb, cases_lt, cases_Bool}
use Rattle.std.proofs.lemmas.Bool.{and_from, and_parts}
use Rattle.std.specs.Prelude.{nat_lt, nat_le, All}
use Rattle.std.specs.Option.{option_map}
use Rattle.grep_matcher.specs.Lines.{byte_of, lines}
use Rattle.grep_matcher.specs.Meanings.{Meaning}
use Rattle.grep_report.specs.declared.sink_context.SinkContextKind.TheVariants.{Before, After}
use Rattle.grep_report.specs.declared.sink_context.SinkContextKind.TheVariants.{Other}
use Rattle.grep_definitions.proofs.LineSliceLemmas.{line-report}
use Rattle.grep_definitions.proofs.BelowLemmas.{some_below-find, first_below-nowhere}
use Rattle.grep_definitions.proofs.BelowLemmas.{some_below-some, first_below-of, first_below-late}
use Rattle.grep_definitions.proofs.BelowLemmas.{first_below-none, joined_from-add}
use Rattle.grep_definitions.proofs.BelowLemmas.{joined_from-equal, headed-through, joined_from-none}
use Rattle.grep_definitions.proofs.FirstLineLemmas as prefix
use Rattle.grep_definitions.proofs.FirstLineLemmas.{IsClosed, some_below-same, first_below-same}
use Rattle.grep_definitions.proofs.BoolLemmas.{clash}
use Rattle.grep_matcher.proofs.LineStartLemmas.{line_start-ascends, line_start-le}
use Rattle.grep_definitions.specs.LineWalks.{IsNear}
use Rattle.std.proofs.lemmas.List.{take_at, drop_at}
use Rattle.std.proofs.lemmas.List.Elements.{All-drop, All-take}
use Rattle.grep_report.specs.SinkReports.{no_surroundings}

-- a first number that passes stays the first, however far one looks
first_below-far : (p : ℕ → Bool) (n m : ℕ) → some_below p n ≡ true → first_below p (n + m)
    ≡ first_below p n
first_below-far p n zero is = let none : n + zero ≡ n = omega arith in rw none refl
first_below-far p n (suc m) is =
    let found = some_below-find p n is in
    let there : some_below p (n + m) ≡ true = some_below-some p (n + m) found.0
    (omega (arith, found.1)) found.2 in
    let sum : n + suc m ≡ suc (n + m) = omega arith in
    rw (sum, there) (first_below-far p n m is)

module _ (k : Settings) (meaning : Meaning) (front back : List ℕ)
    (closed : IsClosed (byte_of k.line_terminator) front) where
  abbrev selection : List ℕ → Selection
  selection = selected_lines k meaning

  -- all bytes, and how many lines the front and they have
  abbrev pub whole : List ℕ
  whole = front ++ back

  abbrev pub n : ℕ
  n = line_count k front

  abbrev pub all : ℕ
  all = line_count k whole

  -- the whole has the lines of the front and those of the back
  pub more_lines : all ≡ n + length (lines (byte_of k.line_terminator) back)
  more_lines = grind (arith, prefix.all_lines, length-append)

  -- whether a line of the front is selected
  abbrev pub selected : ℕ → Bool
  selected i = is_selected k meaning front i

  -- the whole selects the same lines there
  pub same_selected : (i : ℕ) → i < n → is_selected k meaning whole i ≡ selected i
  same_selected i below = prefix.is_selected-same k meaning front back closed i below

  -- a selected line that has line i in the reach before it
  abbrev pub near_before : List ℕ → ℕ → ℕ → Bool
  near_before bytes i j = nat_lt i j && nat_le (j - i) k.before_context
      && is_selected k meaning bytes j

  -- what that says of the two lines
  pub record IsNearMatch (bytes : List ℕ) (i j : ℕ) : Type 0 where
    pub beyond : i < j
    pub within : j - i ≤ k.before_context
    pub chosen : is_selected k meaning bytes j ≡ true

  -- what the test says
  pub near-from : (bytes : List ℕ) (i j : ℕ) → near_before bytes i j ≡ true → IsNearMatch bytes i j
  near-from bytes i j is = grind arith

  -- the test, if that holds
  pub near-to : (bytes : List ℕ) (i j : ℕ) → IsNearMatch bytes i j → near_before bytes i j ≡ true
  near-to bytes i j h = grind arith

  -- a line before a match in the front is so in the whole
  precedes-more : (i : ℕ) → precedes_selected k front (selection front) i ≡ true
      → precedes_selected k whole (selection whole) i ≡ true
  precedes-more i is =
      let found = some_below-find (near_before front i) n is in
      let near = near-from front i found.0 found.2 in
      some_below-some (near_before whole i) all found.0 (omega (arith, found.1, more_lines))
      (near-to whole i found.0
      (record {
        beyond = near.beyond;
        within = near.within;
        chosen = same_selected found.0 found.1 ∙ near.chosen;
      }))

  -- a line that only a match after the front makes a line before a match
  pub record IsLate (i : ℕ) : Type 0 where
    pub inside : i < n
    pub unselected : selected i ≡ false
    pub unfollowed : follows_selected k front (selection front) i ≡ false
    pub precedes : precedes_selected k whole (selection whole) i ≡ true
    pub unpreceded : precedes_selected k front (selection front) i ≡ false

  -- a line of the front is reported the same way in the whole, or is late
  pub kind-same : (i : ℕ) → i < n
      → (kind k whole (selection whole) i ≡ kind k front (selection front) i) ⊎ IsLate i
  kind-same i below = go (selected i) (follows_selected k front (selection front) i)
      (precedes_selected k front (selection front) i)
      (precedes_selected k whole (selection whole) i) refl refl refl refl
    where
      s : is_selected k meaning whole i ≡ selected i
      s = same_selected i below

      f : follows_selected k whole (selection whole) i ≡ follows_selected k front (selection front)
          i
      f = prefix.follows-same k meaning front back closed i below

      t : is_trailing k meaning whole i ≡ is_trailing k meaning front i
      t = prefix.is_trailing-same k meaning front back closed i below

      go : (a b c d : Bool) → selected i ≡ a → follows_selected k front (selection front) i ≡ b
          → precedes_selected k front (selection front) i ≡ c
          → precedes_selected k whole (selection whole) i ≡ d
          → (kind k whole (selection whole) i ≡ kind k front (selection front) i) ⊎ IsLate i
      go true b c d is_a is_b is_c is_d = inl (rw (s, is_a) refl)
      go false true c d is_a is_b is_c is_d =
          inl (rw (s, is_a, f, is_b)
          (ap (λ (x : Bool). Some (if x then matched else in_context After)) t))
      go false false true true is_a is_b is_c is_d = inl (rw (s, is_a, f, is_b, is_c, is_d) refl)
      go false false true false is_a is_b is_c is_d = absurd (let up = precedes-more i is_c in cc)
      go false false false false is_a is_b is_c is_d = inl (rw (s, is_a, f, is_b, is_c, is_d) refl)
      go false false false true is_a is_b is_c is_d = inr
          (record {
            inside = below;
            unselected = is_a;
            unfollowed = is_b;
            precedes = is_d;
            unpreceded = is_c;
          })

  -- after a late line no line of the front is selected
  late-unselected : (i j : ℕ) → IsLate i → i ≤ j → j < n → selected j ≡ false
  late-unselected i j late low below = ⊎_elim (λ holds. absurd (found holds)) (λ no. no)
      (cases_Bool (selected j))
    where
      found : selected j ≡ true → ⊥
      found holds =
          let beyond = some_below-find (near_before whole i) all late.precedes in
          let near = near-from whole i beyond.0 beyond.2 in
          let after_i : i < j = ⊎_elim (λ less. less)
          (λ out. absurd (let same : i ≡ j = omega arith in let no = ap selected (sym same)
          ∙ late.unselected in cc)) (cases_lt i j) in
          let far : n ≤ beyond.0 = ⊎_elim
          (λ less. absurd (let here = some_below-some (near_before front i) n beyond.0 less
          (near-to front i beyond.0
          (record {
            beyond = near.beyond;
            within = near.within;
            chosen = sym (same_selected beyond.0 less) ∙ near.chosen;
          })) in
          let no = late.unpreceded in cc)) (λ out. out) (cases_lt beyond.0 n) in
          let here = some_below-some (near_before front i) n j below
          (near-to front i j (record { beyond = after_i; within = omega arith; chosen = holds })) in
          let no = late.unpreceded in
          cc

  -- a selected line of the front that has line i in its reach
  abbrev near_after : ℕ → ℕ → Bool
  near_after i j = nat_le (i - j) k.after_context && selected j

  -- after a late line no line of the front follows a selected one
  late-unfollowed : (i j : ℕ) → IsLate i → i ≤ j → j < n
      → follows_selected k front (selection front) j ≡ false
  late-unfollowed i j late low below = ⊎_elim (λ holds. absurd (found holds)) (λ no. no)
      (cases_Bool (follows_selected k front (selection front) j))
    where
      found : follows_selected k front (selection front) j ≡ true → ⊥
      found holds =
          let match = some_below-find (near_after j) j holds in
          let both = and_parts (nat_le (j - match.0) k.after_context) (selected match.0) match.2 in
          let within = leb-true (j - match.0) k.after_context both.0 in
          let chosen = both.1 in
          let earlier : match.0 < i = ⊎_elim (λ less. less)
          (λ out. absurd (let no = late-unselected i match.0 late out (omega arith) in cc))
          (cases_lt match.0 i) in
          let here = some_below-some (near_after i) i match.0 earlier
          (and_from (nat_le (i - match.0) k.after_context) (selected match.0)
          (le-leb (i - match.0) k.after_context (omega (arith, within))) chosen) in
          let no = late.unfollowed in
          cc

  -- after a late line no line of the front is before a selected one
  late-unpreceded : (i j : ℕ) → IsLate i → i ≤ j → j < n
      → precedes_selected k front (selection front) j ≡ false
  late-unpreceded i j late low below = ⊎_elim (λ holds. absurd (found holds)) (λ no. no)
      (cases_Bool (precedes_selected k front (selection front) j))
    where
      found : precedes_selected k front (selection front) j ≡ true → ⊥
      found holds =
          let match = some_below-find (near_before front j) n holds in
          let near = near-from front j match.0 match.2 in
          let no = late-unselected i match.0 late (omega arith) match.1 in
          let chosen = near.chosen in
          cc

  module _ (built : k.passthru ≡ true → k.before_context ≡ 0) where
    -- after a late line no line of the front is reported
    pub late-kind : (i j : ℕ) → IsLate i → i ≤ j → j < n → kind k front (selection front) j ≡ None
    late-kind i j late low below =
        let near = near-from whole i _ (some_below-find (near_before whole i) all late.precedes).2
        in
        let plain : k.passthru
        ≡ false = ⊎_elim (λ holds. absurd (let none = built holds in omega arith))
        (λ no. no) (cases_Bool k.passthru) in
        rw (
          late-unselected i j late low below,
          late-unfollowed i j late low below,
          late-unpreceded i j late low below,
          plain,
        ) refl

    -- after a late line no line of the front has a call
    pub late-calls : (i j : ℕ) → IsLate i → i ≤ j → j < n → calls_at k front (selection front) j
        ≡ []
    late-calls i j late low below =
        let none = late-kind i j late low below in
        rw (none, and-false (nat_lt 0 (k.after_context + k.before_context))) refl

  -- a selected line after line i
  abbrev later_in : List ℕ → ℕ → ℕ → Bool
  later_in bytes i j = nat_lt i j && is_selected k meaning bytes j

  -- a line before a match in the front has the same next match in the whole
  next-same : (i : ℕ) → precedes_selected k front (selection front) i ≡ true
      → first_below (later_in whole i) all ≡ first_below (later_in front i) n
  next-same i precedes =
      let found = some_below-find (near_before front i) n precedes in
      let near = near-from front i found.0 found.2 in
      let same : (j : ℕ) → j < n → later_in whole i j ≡ later_in front i j =
      λ j below. ap (λ b. nat_lt i j && b) (same_selected j below) in
      let there = some_below-some (later_in whole i) n found.0 found.1
      (and_from (nat_lt i found.0) (is_selected k meaning whole found.0)
      (lt-ltb i found.0 near.beyond) (same_selected found.0 found.1 ∙ near.chosen)) in
      ap (first_below (later_in whole i)) more_lines ∙ first_below-far (later_in whole i) n _ there
      ∙ first_below-same (later_in whole i) (later_in front i) n same

  -- the count of a line before a match is that of the match
  through-same : (i : ℕ) → i < n → precedes_selected k front (selection front) i ≡ true
      → (next_report_end k whole (selection whole) i ≡ next_report_end k front (selection front) i)
      × (next_report_end k front (selection front) i ≤ n)
  through-same i below precedes = go (first_below (later_in front i) n) refl
    where
      go : (o : Option ℕ) → first_below (later_in front i) n ≡ o
          → (next_report_end k whole (selection whole) i ≡ next_report_end k front (selection front)
          i) × (next_report_end k front (selection front) i ≤ n)
      go None is = let next = next-same i precedes in (rw (next, is) refl, rw is (omega arith))
      go (Some u) is = let next = next-same i precedes in let inside =
          (first_below-of (later_in front i) n u is).0 in
          (rw (next, is) refl, rw is (omega arith))

  -- a line that is reported as one before a match is before one
  kind-before : (i : ℕ) → kind k front (selection front) i ≡ Some (in_context Before)
      → precedes_selected k front (selection front) i ≡ true
  kind-before i is = grind arith

  -- the count of a line of the front is the same in the whole
  end-same : (i : ℕ) → i < n → (kd : Option Kind) → kind k front (selection front) i ≡ kd
      → count_at k whole (selection whole) i kd ≡ count_at k front (selection front) i kd
  end-same i below None is = grind (arith, prefix.start-same)
  end-same i below (Some matched) is = grind (arith, prefix.start-same)
  end-same i below (Some (in_context Before)) is =
      grind (arith, prefix.start-same, through-same, kind-before)
  end-same i below (Some (in_context After)) is = grind (arith, prefix.start-same)
  end-same i below (Some (in_context Other)) is = grind (arith, prefix.start-same)

  -- a line of the front has the same report in the whole
  report-same : (i : ℕ) → i < n → (kd : Option Kind) → kind k front (selection front) i ≡ kd
      → Plans.report k whole (selection whole) i kd ≡ Plans.report k front (selection front) i kd
  report-same i below None is = refl
  report-same i below (Some matched) is =
      let number = prefix.number-same k meaning front back closed i (omega arith) in
      let start = prefix.start-same k meaning front back closed i (omega arith) in
      let line = prefix.line-same k meaning front back closed i below in
      let end = end-same i below (Some matched) is in
      line-report k whole meaning i
      ∙ ap (λ x. planned (matches x (Plans.start k whole i) (Plans.line k whole i)
      no_surroundings)
      (count_at k whole (selection whole) i (Some matched)) ∷ []) number
      ∙ ap (λ x. planned (matches (Plans.number k front i) x (Plans.line k whole i)
      no_surroundings)
      (count_at k whole (selection whole) i (Some matched)) ∷ []) start
      ∙ ap (λ x. planned (matches (Plans.number k front i) (Plans.start k front i) x
      no_surroundings)
      (count_at k whole (selection whole) i (Some matched)) ∷ []) line
      ∙ ap (λ x. planned (matches (Plans.number k front i) (Plans.start k front i)
      (Plans.line k front i) no_surroundings) x ∷ []) end ∙ sym (line-report k front meaning i)
  report-same i below (Some (in_context c)) is =
      let number = prefix.number-same k meaning front back closed i (omega arith) in
      let start = prefix.start-same k meaning front back closed i (omega arith) in
      let line = prefix.line-same k meaning front back closed i below in
      let end = end-same i below (Some (in_context c)) is in
      ap (λ x. (planned (context c x (Plans.start k whole i) (Plans.line k whole i))
      (count_at k whole (selection whole) i (Some (in_context c)))) ∷ []) number
      ∙ ap (λ x. (planned (context c (Plans.number k front i) x (Plans.line k whole i))
      (count_at k whole (selection whole) i (Some (in_context c)))) ∷ []) start
      ∙ ap (λ x. (planned (context c (Plans.number k front i) (Plans.start k front i) x)
      (count_at k whole (selection whole) i (Some (in_context c)))) ∷ []) line
      ∙ ap (λ x. planned (context c (Plans.number k front i) (Plans.start k front i)
      (Plans.line k front i)) x ∷ []) end

  -- how many lines may be reported, in the front and in the whole
  abbrev pub count_front : ℕ
  count_front = reports_end k meaning front

  abbrev pub count_whole : ℕ
  count_whole = reports_end k meaning whole

  -- a bound is the same, or there is none in the front and a far one in the whole
  abbrev Bounds : Option ℕ → Option ℕ → Type 0
  Bounds far near = (far ≡ near) ⊎ ((near ≡ None) × (u : ℕ) × (far ≡ Some u) × (n ≤ u))

  -- such bounds give as many lines of the front
  bounded : (far near : Option ℕ) → Bounds far near → (x : ℕ) → min (at_most far x) n
      ≡ at_most near (min x n)
  bounded far near (inl same) x = grind arith
  bounded far near (inr (none, u, is, past)) x = rw (none, is) (omega arith)

  -- a bound by the first line that passes is such a bound
  first-bounds : (f : ℕ → ℕ) → ((u : ℕ) → u ≤ f u) → (p q : ℕ → Bool)
      → ((j : ℕ) → j < n → p j ≡ q j)
      → Bounds (option_map f (first_below p all)) (option_map f (first_below q n))
  first-bounds f grows p q same =
      grind (
        arith,
        more_lines,
        first_below-far,
        first_below-same,
        first_below-nowhere,
        some_below-same,
        first_below-late,
      )

  -- so is the bound by the stop
  stop-bounds : Bounds (end_by_stop k meaning whole) (end_by_stop k meaning front)
  stop-bounds = first-bounds suc (λ u. omega arith) (ends_search k meaning whole)
      (ends_search k meaning front) (λ j below. prefix.ends_search-same k meaning front back closed
      j below)

  -- so is the bound by the limit
  limit-bounds : Bounds (end_by_limit k meaning whole) (end_by_limit k meaning front)
  limit-bounds = go k.passthru (has_room k 0)
    where
      by : (bytes : List ℕ) → Option ℕ
      by bytes = option_map (λ m. suc (m + k.after_context))
          (first_below (fills_limit k meaning bytes) (line_count k bytes))

      go : (b room : Bool) → Bounds (if b then None else (if room then by whole else Some 0))
          (if b then None else (if room then by front else Some 0))
      go true room = inl refl
      go false false = inl refl
      go false true = first-bounds (λ m. suc (m + k.after_context)) (λ u. omega arith)
          (fills_limit k meaning whole) (fills_limit k meaning front)
          (λ j below. prefix.fills_limit-same k meaning front back closed j below)

  -- the lines of the front that may be reported are the same
  pub count-same : min count_whole n ≡ count_front
  count-same = grind (arith, more_lines, bounded, limit-bounds, stop-bounds)

  -- up to line i the kinds are the same
  abbrev pub Same : ℕ → Type 0
  Same i = (j : ℕ) → j < i → kind k whole (selection whole) j ≡ kind k front (selection front) j

  -- a line up to there is reported in both or in neither
  reported-same : (i j : ℕ) → Same (i + 1) → i < count_front → j ≤ i
      → is_reported k whole (selection whole) j ≡ is_reported k front (selection front) j
  reported-same i j same below inside = grind (arith, lt-ltb, count-same)

  -- a break may come before the same kinds
  breaks-same : (o : Option Kind) → can_break o ≡ can_break o
  breaks-same None = refl
  breaks-same (Some matched) = refl
  breaks-same (Some (in_context Before)) = refl
  breaks-same (Some (in_context After)) = refl
  breaks-same (Some (in_context Other)) = refl

  -- a line up to there has the same calls
  calls_at-same : (i : ℕ) → Same (i + 1) → i < count_front → calls_at k whole (selection whole) i
      ≡ calls_at k front (selection front) i
  calls_at-same i same below =
      let inside : i < n = omega (arith, count-same) in
      let kinds = same i (omega arith) in
      let last = reported-same i (i - 1) same below (omega arith) in
      let some = some_below-same (is_reported k whole (selection whole))
      (is_reported k front (selection front)) i
      (λ j less. reported-same i j same below (omega arith)) in
      let end = end-same i inside (kind k front (selection front) i) refl in
      let report = report-same i inside (kind k front (selection front) i) refl in
      let breaks_same : breaks_before k whole (selection whole) i
      ≡ breaks_before k front (selection front) i =
      ap (λ o. nat_lt 0 (k.after_context + k.before_context) && can_break o
      && not (is_reported k whole (selection whole) (i - 1))
      && some_below (is_reported k whole (selection whole)) i) kinds
      ∙ ap (λ b. nat_lt 0 (k.after_context + k.before_context)
      && can_break (kind k front (selection front) i) && not b
      && some_below (is_reported k whole (selection whole)) i) last
      ∙ ap (λ b. nat_lt 0 (k.after_context + k.before_context)
      && can_break (kind k front (selection front) i)
      && not (is_reported k front (selection front) (i - 1)) && b) some
      ∙ ap (λ b. nat_lt 0 (k.after_context + k.before_context) && b
      && not (is_reported k front (selection front) (i - 1))
      && some_below (is_reported k front (selection front)) i)
      (breaks-same (kind k front (selection front) i)) in
      let F : Bool → ℕ → List Planned → List Planned = λ b e ts. if b then planned breaks e ∷ ts
      else ts in
      ap (λ b. F b (count_at k whole (selection whole) i (kind k whole (selection whole) i))
      (Plans.report k whole (selection whole) i (kind k whole (selection whole) i))) breaks_same
      ∙ ap (λ o. F (breaks_before k front (selection front) i)
      (count_at k whole (selection whole) i o) (Plans.report k whole (selection whole) i o)) kinds
      ∙ ap (λ e. F (breaks_before k front (selection front) i) e
      (Plans.report k whole (selection whole) i (kind k front (selection front) i))) end
      ∙ ap (λ ts. F (breaks_before k front (selection front) i)
      (count_at k front (selection front) i (kind k front (selection front) i)) ts) report

  -- the kinds are the same, or up to a first late line
  pub split : (t : ℕ) → t ≤ n → Same t ⊎ ((i : ℕ) × (i < t) × IsLate i × Same i)
  split zero inside = inl (λ j below. absurd (omega arith))
  split (suc t) inside = elim (split t (omega arith)) [
    | inr late ↦ inr (late.0, omega arith, late.2, late.3)
    | inl same ↦ elim (kind-same t (omega arith)) [
      | inr late ↦ inr (t, omega arith, late, same)
      | inl here ↦ inl (λ j below. ⊎_elim (λ less. same j less) (λ out. at_last j t here below out)
          (cases_lt j t))
    ]
  ]
    where
      at_last : (j t : ℕ) → kind k whole (selection whole) t ≡ kind k front (selection front) t → j
          < suc t → t ≤ j → kind k whole (selection whole) j ≡ kind k front (selection front) j
      at_last j t here below out =
          let is : t ≡ j = omega arith in
          subst (λ j. kind k whole (selection whole) j ≡ kind k front (selection front) j) is here

  -- up to a line before which the kinds are the same, the calls are the same
  pub joined-same : (m : ℕ) → Same m → m ≤ count_front
      → joined_from (calls_at k whole (selection whole)) 0 m
      ≡ joined_from (calls_at k front (selection front)) 0 m
  joined-same m same inside =
      joined_from-equal (calls_at k whole (selection whole)) (calls_at k front (selection front)) 0
      m (λ j low high. calls_at-same j (λ q less. same q (omega arith)) (omega arith))

  -- a late line's calls belong to a match after the front
  pub late-through : (i : ℕ) → IsLate i → Plans.start k whole n < Plans.start k whole
      (next_report_end k whole (selection whole) i)
  late-through i late = go (first_below (later_in whole i) all) refl
    where
      go : (first : Option ℕ) → first_below (later_in whole i) all ≡ first
          → Plans.start k whole n < Plans.start k whole
          (next_report_end k whole (selection whole) i)
      go None is =
          let found = some_below-find (near_before whole i) all late.precedes in
          let match = near-from whole i found.0 found.2 in
          absurd (clash (some_below-some (later_in whole i) all found.0 found.1
          (and_from (nat_lt i found.0) (is_selected k meaning whole found.0)
          (lt-ltb i found.0 match.beyond) match.chosen))
          (first_below-none (later_in whole i) all is))
      go (Some q) is =
          let found = first_below-of (later_in whole i) all q is in
          let both = and_parts (nat_lt i q) (is_selected k meaning whole q) found.1 in
          let beyond = ltb-true i q both.0 in
          let far : n ≤ q = ⊎_elim
          (λ less. absurd (clash (sym (same_selected q less) ∙ both.1)
          (late-unselected i q late (omega (arith, beyond)) less))) (λ out. out) (cases_lt q n) in
          let up = line_start-ascends (byte_of k.line_terminator) whole n
          (omega (arith, found.0)) in
          let le = line_start-le (byte_of k.line_terminator) whole (n + 1) (q + 1) (omega arith) in
          rw is (omega arith)

  module _ (built : k.passthru ≡ true → k.before_context ≡ 0) where
    -- the calls over the front begin those over the whole
    pub front_calls-begin : (later : List Planned)
        × ((line_plan k meaning whole).calls ≡ (line_plan k meaning front).calls ++ later)
    front_calls-begin = elim (split count_front (omega (arith, count-same))) [
      | inl same ↦
          let sum : count_whole ≡ count_front + (count_whole - count_front) =
          omega (arith, count-same) in (
            joined_from (calls_at k whole (selection whole)) (0 + count_front) (count_whole
                - count_front),
            ap (λ m. planned begins 0 ∷ joined_from (calls_at k whole (selection whole)) 0 m) sum
                ∙ ap (λ ts. planned begins 0 ∷ ts)
                (joined_from-add (calls_at k whole (selection whole)) 0 count_front (count_whole
                - count_front)
                ∙ ap (λ ts. ts ++ joined_from (calls_at k whole (selection whole)) (0 + count_front)
                (count_whole - count_front)) (joined-same count_front same (omega arith))),
          )
      | inr late ↦
          let i = late.0 in
          let below = late.1 in
          let sum : count_whole ≡ i + (count_whole - i) = omega (arith, count-same) in
          let part : count_front ≡ i + (count_front - i) = omega arith in
          let here = joined-same i late.3 (omega arith) in
          let empty = joined_from-none (calls_at k front (selection front)) (0 + i) (count_front
          - i)
          (λ j low high. late-calls built i j late.2 (omega arith) (omega (arith, count-same))) in (
            joined_from (calls_at k whole (selection whole)) (0 + i) (count_whole - i),
            ap (λ m. planned begins 0 ∷ joined_from (calls_at k whole (selection whole)) 0 m) sum
                ∙ ap (λ ts. planned begins 0 ∷ ts)
                (joined_from-add (calls_at k whole (selection whole)) 0 i (count_whole - i)
                ∙ ap (λ ts. ts ++ joined_from (calls_at k whole (selection whole)) (0 + i)
                (count_whole - i)) (here ∙ sym (append-nil _)
                ∙ ap (λ ts. joined_from (calls_at k front (selection front)) 0 i ++ ts) (sym empty)
                ∙ sym (joined_from-add (calls_at k front (selection front)) 0 i (count_front - i))
                ∙ ap (joined_from (calls_at k front (selection front)) 0) (sym part))),
          )
    ]

    -- the calls that a walk has made that has come to the end of the front, if their counts are at
    -- most that, are those over the front
    module _ (v left : ℕ) (near : IsNear k whole (selection whole) v n left) (reportable : n
        ≤ count_whole) (ended : All (λ call. call.if_false.count ≤ Plans.start k whole n)
        (calls_before k whole (selection whole) v))
      where
        front_reportable : n ≡ count_front
        front_reportable = omega (arith, count-same)

        -- a line that was passed has no call
        passed-kind : (j : ℕ) → v ≤ j → j < n → kind k front (selection front) j ≡ None
        passed-kind j low below =
            let out = near.passed j low below in
            let unselected : selected j ≡ false = sym (same_selected j below) ∙ out.0 in
            let unfollowed : follows_selected k front (selection front) j ≡ false =
            sym (prefix.follows-same k meaning front back closed j below) ∙ out.1 in
            let plain : k.passthru ≡ false = ⊎_elim (λ yes. absurd (omega (arith, near.bare yes)))
            (λ no. no) (cases_Bool k.passthru) in
            let unpreceded : precedes_selected k front (selection front) j ≡ false = ⊎_elim
            (λ holds. absurd (let found = some_below-find (near_before front j) n holds in
            let match = near-from front j found.0 found.2 in
            clash match.chosen (sym (same_selected found.0 found.1)
            ∙ (near.passed found.0 (omega arith) found.1).0)))
            (λ no. no) (cases_Bool (precedes_selected k front (selection front) j)) in
            rw (unselected, unfollowed, unpreceded, plain) refl

        passed-calls : (j : ℕ) → v ≤ j → j < n → calls_at k front (selection front) j ≡ []
        passed-calls j low below = grind (arith, passed-kind, and-false)

        -- the calls of a line before
        ended-at : (i : ℕ) → i < v → All (λ call. call.if_false.count ≤ Plans.start k whole n)
            (calls_at k whole (selection whole) i)
        ended-at i below =
            let f = calls_at k whole (selection whole) in
            let one : v ≡ i + suc (v - (i + 1)) = omega arith in
            let from_zero : 0 + i ≡ i = omega arith in
            let split : joined_from f 0 v ≡ joined_from f 0 i
            ++ (f i ++ joined_from f (i + 1) (v - (i + 1))) =
            ap (joined_from f 0) one ∙ (joined_from-add f 0 i (suc (v - (i + 1)))
            ∙ ap (λ m. joined_from f 0 i ++ joined_from f m (suc (v - (i + 1)))) from_zero) in
            let P : Planned → Type 0 = λ call. call.if_false.count ≤ Plans.start k whole n in
            let later : All P (joined_from f 0 v) = λ m d inside. ended (suc m) d
            (omega (arith, inside)) in
            let rest : List Planned = f i ++ joined_from f (i + 1) (v - (i + 1)) in
            let there : All P rest =
            subst (All P) (drop_at (joined_from f 0 i) rest (length (joined_from f 0 i)) refl)
            (All-drop P (length (joined_from f 0 i)) (joined_from f 0 i ++ rest)
            (subst (All P) split later)) in
            subst (All P) (take_at (f i) (joined_from f (i + 1) (v - (i + 1))) (length (f i)) refl)
            (All-take P (length (f i)) rest there)

        not-late : (i : ℕ) → i < v → IsLate i → ⊥
        not-late i below late =
            let is : kind k whole (selection whole) i ≡ Some (in_context Before) =
            let s = same_selected i late.inside ∙ late.unselected in
            let f = prefix.follows-same k meaning front back closed i late.inside
            ∙ late.unfollowed in
            let p = late.precedes in
            rw (s, f, p) refl in
            let end = count_at k whole (selection whole) i (Some (in_context Before)) in
            let all_ended = subst (λ kd. All (λ (call : Planned). call.if_false.count
            ≤ Plans.start k whole n) (if breaks_before k whole (selection whole) i
            then (planned breaks (count_at k whole (selection whole) i kd))
            ∷ Plans.report k whole (selection whole) i kd
            else Plans.report k whole (selection whole) i kd)) is (ended-at i below) in
            let low : end ≤ Plans.start k whole n = go (breaks_before k whole (selection whole) i)
            (context Before (Plans.number k whole i) (Plans.start k whole i)
            (Plans.line k whole i)) end all_ended in
            omega (arith, late-through i late)
          where
            go : (b : Bool) (call : Call) (end : ℕ)
                → All (λ (call : Planned). call.if_false.count ≤ Plans.start k whole n)
                (if b then planned breaks end ∷ (planned call end) ∷ []
                else planned call end ∷ [])
                → end ≤ Plans.start k whole n
            go true call end all_ended = all_ended 0 (planned call end) (omega arith)
            go false call end all_ended = all_ended 0 (planned call end) (omega arith)

        same-kinds : Same v
        same-kinds j below = ⊎_elim (λ same. same) (λ late. absurd (not-late j below late))
            (kind-same j (omega arith))

        pub front_calls-seen : calls_before k whole (selection whole) v
            ≡ (line_plan k meaning front).calls
        front_calls-seen =
            let begin : Planned = (planned begins 0) in
            let f = calls_at k front (selection front) in
            let same = ap (λ ts. begin ∷ ts)
            (joined-same v same-kinds (omega (arith, front_reportable))) in
            let none = joined_from-none f v (count_front - v)
            (λ j low high. passed-calls j low (omega (arith, front_reportable))) in
            same ∙ sym (headed-through begin f v count_front (omega (arith, front_reportable))
            ∙ (ap (λ ts. (begin ∷ joined_from f 0 v) ++ ts) none
            ∙ append-nil (begin ∷ joined_from f 0 v)))
