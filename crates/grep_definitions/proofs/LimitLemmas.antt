-- Limits and stops along a walk, against the last line that may be reported.
use Rattle.std.proofs.Common.{◌≡◌, ℕ, suc, ◌+◌, ◌-◌, ◌<◌, ◌≤◌, Bool, true, false, not, ◌&&◌, length}
use Rattle.std.proofs.Common.{List, refl, sym, ◌∙◌, ap, arith, Option, Some, None}
use Rattle.std.proofs.Math.Bool.{or-true, or-false, and-false, and-true}
use Rattle.std.proofs.lemmas.Bool.{lt-ltb, cases_Bool, and_parts}
use Rattle.std.specs.Prelude.{nat_lt, IfSome}
use Rattle.std.specs.Option.{option_map}
use Rattle.grep_matcher.specs.Lines.{byte_of, lines}
use Rattle.grep_matcher.specs.Meanings.{Meaning}
use Rattle.grep_definitions.specs.Plans.{end_by_limit, end_by_stop, reports_end, Settings}
use Rattle.grep_definitions.specs.Plans.{some_below, count_below, first_below, has_room, at_most}
use Rattle.grep_definitions.specs.Plans.{ends_search, fills_limit, is_selected, stops_next}
use Rattle.grep_definitions.specs.Plans
use Rattle.grep_definitions.specs.LineWalks.{IsOpen}
use Rattle.grep_definitions.proofs.BelowLemmas.{some_below-none, some_below-some, first_below-here}
use Rattle.grep_definitions.proofs.BelowLemmas.{first_below-of, first_below-more}
use Rattle.grep_definitions.proofs.BelowLemmas.{first_below-nowhere, first_below-late}
use Rattle.grep_definitions.proofs.BelowLemmas.{count_below-le, room-first, room-le, at_most-over}
use Rattle.grep_definitions.proofs.BelowLemmas.{at_most-above, at_most-next, at_most-some}
use Rattle.grep_definitions.proofs.BoolLemmas.{clash}

module _ (k : Settings) (meaning : Meaning) (bytes : List ℕ) where
  abbrev n : ℕ
  n = length (lines (byte_of k.line_terminator) bytes)

  abbrev hits : ℕ → Bool
  hits = Plans.hits k meaning bytes

  abbrev is_chosen : ℕ → Bool
  is_chosen = Plans.is_chosen k meaning bytes

  abbrev ends : ℕ → Bool
  ends = ends_search k meaning bytes

  abbrev fills : ℕ → Bool
  fills = fills_limit k meaning bytes

  abbrev by_stop : Option ℕ
  by_stop = end_by_stop k meaning bytes

  abbrev by_limit : Option ℕ
  by_limit = end_by_limit k meaning bytes

  abbrev reportable : ℕ
  reportable = reports_end k meaning bytes

  -- no line from the i-th on may be reported
  pub record IsDone (i : ℕ) : Type 0 where
    pub last : reportable ≡ i
    pub silent : (q : ℕ) → i ≤ q → q < n → is_selected k meaning bytes q ≡ false

  -- a line that isn't chosen isn't selected
  selected-none : (q : ℕ) → is_chosen q ≡ false → is_selected k meaning bytes q ≡ false
  selected-none q unchosen = ap (λ b. b && not (some_below ends q)) unchosen

  -- in a search that doesn't stop no line ends it, and each chosen line is selected
  module _ (never : (some : Bool) → stops_next k some ≡ false) where
    pub ends-none : (i : ℕ) → some_below ends i ≡ false
    ends-none i = some_below-none ends i (λ j less. rw (never (some_below is_chosen j)) refl)

    pub selected-unstopped : (i : ℕ) → is_selected k meaning bytes i ≡ is_chosen i
    selected-unstopped i = rw (ends-none i) (and-true _)

    pub by_stop-none : by_stop ≡ None
    by_stop-none = ap (option_map suc) (first_below-nowhere ends n (ends-none n))

  -- in a search without a limit that bounds nothing
  pub by_limit-none : ((count : ℕ) → has_room k count ≡ true) → by_limit ≡ None
  by_limit-none room = grind (arith, first_below-nowhere, some_below-none, and-false)

  -- the limit of a search in which a line fills it isn't 0
  filled-room : (m : ℕ) → fills m ≡ true → has_room k 0 ≡ true
  filled-room m full = room-first k (count_below hits m)
      (and_parts (hits m) _ (and_parts (is_chosen m) _ full).0).1

  by_limit-is : (m : ℕ) → k.passthru ≡ false → first_below fills n ≡ Some m → by_limit
      ≡ Some (suc (m + k.after_context))
  by_limit-is m plain is =
      let some = filled-room m (first_below-of fills n m is).1 in
      rw (plain, some, is) refl

  stop_bound : {i left c : ℕ} → IsOpen k meaning bytes i left c → IfSome by_stop (λ b. i < b)
  stop_bound {i} {left} {c} opened = grind (arith, first_below-late)

  limit_bound : {i left c : ℕ} → i ≤ n → IsOpen k meaning bytes i left c
      → IfSome by_limit (λ b. i < b)
  limit_bound {i} {left} {c} inside opened =
      grind (
        arith,
        first_below-late,
        first_below-more,
        cases_Bool,
        clash,
        room-first,
        filled-room,
        first_below-of,
      )

  -- the line that the walk is at may be reported
  pub reportable-above : {i left c : ℕ} → IsOpen k meaning bytes i left c → i < n → i < reportable
  reportable-above {i} {left} {c} opened inside = at_most-above by_limit i (at_most by_stop n)
      (limit_bound (omega arith) opened) (at_most-above by_stop i n (stop_bound opened) inside)

  -- at the end each line has one
  pub reportable-all : {left c : ℕ} → IsOpen k meaning bytes n left c → reportable ≡ n
  reportable-all {left} {c} opened =
      let s = at_most-over by_stop n (stop_bound opened) in
      ap (λ m. at_most by_limit m) s ∙ at_most-over by_limit n (limit_bound (omega arith) opened)

  pub selected-is : {i left c : ℕ} → IsOpen k meaning bytes i left c → is_selected k meaning bytes i
      ≡ is_chosen i
  selected-is opened = rw opened.unended (and-true _)

  module _ {i left c : ℕ} (opened : IsOpen k meaning bytes i left c) (inside : i < n) where
    module _ (yes : is_chosen i ≡ true) where
      free : has_room k c ≡ true
      free = sym opened.below ∙ (and_parts (hits i) _ yes).1

      count_next : (j : ℕ) → j ≡ suc i → count_below hits j ≡ c + 1
      count_next j is = let hit = (and_parts (hits i) _ yes).0 in rw (is, hit, opened.counted free)
          refl

      fills-is : fills i ≡ not (has_room k (c + 1))
      fills-is = rw (yes, opened.counted free) refl

      pub IsOpen-chosen : (k.passthru ≡ false → has_room k (c + 1) ≡ false → 0 < k.after_context)
          → IsOpen k meaning bytes (i + 1) k.after_context (c + 1)
      IsOpen-chosen goes = at (i + 1) (omega arith)
        where
          at : (j : ℕ) → j ≡ suc i → IsOpen k meaning bytes j k.after_context (c + 1)
          at j is = record {
            below = ap (has_room k) (count_next j is);
            counted = λ _. count_next j is;
            any = rw (is, yes) (or-true _ ∙ sym (lt-ltb 0 (c + 1) (omega arith)));
            unended = rw (is, opened.unended, yes) (and-false _);
            unfilled = λ free_next. rw (is, opened.unfilled free, fills-is, free_next) refl;
            filled = λ plain full. (
              i,
              first_below-here fills j i (omega arith) (fills-is ∙ ap not full)
                  (opened.unfilled free),
              omega arith,
              goes plain full,
            );
          }

      pub IsDone-chosen : k.passthru ≡ false → has_room k (c + 1) ≡ false → k.after_context ≡ 0
          → IsDone (i + 1)
      IsDone-chosen plain full none =
          let found = first_below-here fills n i inside (fills-is ∙ ap not full)
          (opened.unfilled free) in
          let bound = by_limit-is i plain found in
          let same : i + k.after_context ≡ i = omega arith in record {
            last = at_most-some by_limit i (at_most by_stop n) (bound ∙ ap (λ m. Some (suc m)) same)
                (at_most-above by_stop i n (stop_bound opened) inside);
            silent = λ q low below. selected-none q (
                let no = room-le k (count_below hits (i + 1)) (count_below hits q)
                (count_below-le hits (i + 1) q low)
                (ap (has_room k) (count_next (i + 1) (omega arith)) ∙ full) in
                rw no (and-false _));
          }

    module _ (no : is_chosen i ≡ false) where
      none-fills : fills i ≡ false
      none-fills = rw no refl

      count_keep : has_room k c ≡ true → (j : ℕ) → j ≡ suc i → count_below hits j ≡ c
      count_keep free j is = grind arith

      below-more : (j : ℕ) → j ≡ suc i → has_room k (count_below hits j) ≡ has_room k c
      below-more j is = grind arith

      pub IsOpen-missed : stops_next k (nat_lt 0 c) ≡ false
          → (k.passthru ≡ false → has_room k c ≡ false → 1 < left)
          → IsOpen k meaning bytes (i + 1) (left - 1) c
      IsOpen-missed on goes = at (i + 1) (omega arith)
        where
          at : (j : ℕ) → j ≡ suc i → IsOpen k meaning bytes j (left - 1) c
          at j is = record {
            below = below-more j is;
            counted = λ free. count_keep free j is;
            any = rw (is, no) (or-false _ ∙ opened.any);
            unended = rw (is, opened.unended, opened.any, on) refl;
            unfilled = λ free. rw (is, opened.unfilled free, none-fills) refl;
            filled = λ plain full. let f = opened.filled plain full in (
              f.0,
              first_below-more fills i j f.0 (omega arith) f.1,
              omega arith,
              omega (arith, goes plain full),
            );
          }

      pub IsDone-limit : k.passthru ≡ false → has_room k c ≡ false → left ≤ 1 → IsDone (i + 1)
      IsDone-limit plain full few =
          let f = opened.filled plain full in
          let found = first_below-more fills i n f.0 (omega arith) f.1 in
          let bound = by_limit-is f.0 plain found in
          let same : f.0 + k.after_context ≡ i = omega arith in
          let shut : has_room k (count_below hits i) ≡ false = opened.below ∙ full in record {
            last = at_most-some by_limit i (at_most by_stop n) (bound ∙ ap (λ m. Some (suc m)) same)
                (at_most-above by_stop i n (stop_bound opened) inside);
            silent = λ q low below. selected-none q (
                let no_more = room-le k (count_below hits i) (count_below hits q)
                (count_below-le hits i q (omega arith)) shut in
                rw no_more (and-false _));
          }

      pub IsDone-stop : stops_next k (nat_lt 0 c) ≡ true → IsDone (i + 1)
      IsDone-stop stop =
          let ended : ends i ≡ true = rw (opened.any, stop, no) refl in
          let found = first_below-here ends n i inside ended opened.unended in
          let bound : by_stop ≡ Some (suc i) = ap (option_map suc) found in
          let last = at_most-some by_stop i n bound inside in record {
            last = ap (λ m. at_most by_limit m) last ∙ at_most-next by_limit i
                (limit_bound (omega arith) opened);
            silent = λ q low below. let over = some_below-some ends q i (omega arith) ended in rw
                over (and-false _);
          }
