-- Which lines the matches that were found across lines touch, from one match to the next.
use Rattle.std.proofs.Common.{◌≡◌, ℕ, ◌+◌, ◌-◌, ◌<◌, ◌≤◌, Bool, true, false, ◌||◌, List, [], ◌∷◌}
use Rattle.std.proofs.Common.{◌++◌, length, refl, sym, ◌∙◌, ap, ap₂, subst, arith, ⊎_elim}
use Rattle.std.proofs.Common.{Some, None}
use Rattle.std.proofs.lemmas.Bool.Decides.{nat_tests}
use Rattle.std.proofs.lemmas.Bool.{cases_lt, lt-ltb, lt-leb, and_left, or_from, or_left}
use Rattle.std.proofs.lemmas.List.{append-nil}
use Rattle.std.proofs.Math.Bool.{or-false}
use Rattle.std.proofs.lemmas.List.Elements.{All-weaker}
use Rattle.std.proofs.lemmas.List.Folds.{list_any-append, list_any_none}
use Rattle.std.specs.Prelude.{nat_lt, All}
use Rattle.std.specs.List.{list_any}
use Rattle.grep_matcher.specs.Meanings.{Meaning}
use Rattle.grep_matcher.specs.Lines.{byte_of}
use Rattle.grep_lines.specs.Blocks.{block_start, block_end}
use Rattle.grep_lines.specs.Positions.{IsLineStart}
use Rattle.grep_definitions.specs.Plans.{line_count, start, touches, position_after, Settings}
use Rattle.grep_definitions.specs.SuccessiveMatches.{counted_matches}
use Rattle.grep_definitions.proofs.MatchBlockLemmas.{within-block, block_start-edge, block_end-edge}
use Rattle.grep_definitions.proofs.MatchBlockLemmas.{block_start-le, block_start-low}
use Rattle.grep_definitions.proofs.MatchBlockLemmas.{block_end-within, block-some, block_start-part}
use Rattle.grep_definitions.proofs.MatchBlockLemmas.{block_end-part}
use Rattle.grep_lines.proofs.LineRangeLemmas.{comes-before, end-start, starts-before, starts-until}
use Rattle.grep_definitions.proofs.TouchLemmas.{rises}
use Rattle.grep_definitions.proofs.SuccessiveMatchLemmas.{position_after-start}
use Rattle.grep_walk.specs.TouchedUnits.{is_in, is_counted, IsPart, IsUnit, AreTouched}

-- a position in a range is at its start or after it, and before its end
in-range : (u : ℕ × ℕ) (s : ℕ) → u.0 ≤ s → s < u.1 → is_in (Some u) s ≡ true
in-range u s low below = grind (arith, nat_tests)

range-in : (u : ℕ × ℕ) (s : ℕ) → is_in (Some u) s ≡ true → (u.0 ≤ s) × (s < u.1)
range-in u s is = grind (arith, nat_tests)

not-in : (u : ℕ × ℕ) (s : ℕ) → (u.0 ≤ s → s < u.1 → ⊥) → is_in (Some u) s ≡ false
not-in u s outside = grind (arith, nat_tests)

-- a second test adds nothing if the first passes wherever it does
or-absorbs : (a b : Bool) → (b ≡ true → a ≡ true) → (a || b) ≡ a
or-absorbs a b less = grind (arith, nat_tests)

-- two ranges of which the second starts in the first or at its end, and ends no earlier, are one
or-joins : (u o : ℕ × ℕ) (s : ℕ) → u.0 ≤ o.0 → o.0 ≤ u.1 → u.1 ≤ o.1
    → (is_in (Some u) s || is_in (Some o) s) ≡ is_in (Some (u.0, o.1)) s
or-joins u o s low mid high = grind (arith, nat_tests)

module _ (k : Settings) (meaning : Meaning) (bytes : List ℕ) where
  abbrev t : ℕ
  t = byte_of k.line_terminator

  abbrev from : ℕ → ℕ
  from = start k bytes

  abbrev n : ℕ
  n = line_count k bytes

  abbrev block : ℕ × ℕ → ℕ × ℕ
  block m = (block_start t bytes m, block_end t bytes m)

  abbrev touched_of : List (ℕ × ℕ) → ℕ → Bool
  touched_of found j = list_any (touches k meaning bytes j) found

  -- one match more
  touches-more : (found : List (ℕ × ℕ)) (m : ℕ × ℕ) (j : ℕ) → j < n
      → touched_of (found ++ m ∷ []) j ≡ (touched_of found j || is_in (Some (block m)) (from j))
  touches-more found m j inside = grind (arith, list_any-append, or-false, within-block)

  -- whether a line is touched, by the matches that were found and those after them
  hit-of : (found later : List (ℕ × ℕ)) → counted_matches k meaning bytes ≡ found ++ later → (j : ℕ)
      → j < n → is_counted k meaning bytes j ≡ (touched_of found j || touched_of later j)
  hit-of found later all j inside = grind (arith, lt-ltb, list_any-append)

  -- matches whose blocks start after a line starts don't touch it
  missed-before : (later : List (ℕ × ℕ)) (j : ℕ) → All (λ m. from j < block_start t bytes m) later
      → touched_of later j ≡ false
  missed-before later j after = grind (arith, list_any_none, All-weaker, and_left, lt-leb)

  -- a line that was touched is touched by one match more
  touched-still : (found : List (ℕ × ℕ)) (m : ℕ × ℕ) (j : ℕ) → j < n → touched_of found j ≡ true
      → touched_of (found ++ m ∷ []) j ≡ true
  touched-still found m j inside is = touches-more found m j inside ∙ or_left _ _ is

  -- no line is touched if there are no matches
  pub touched-none : (position : ℕ) → AreTouched k meaning bytes 0 position [] None
  touched-none position = record {
    same = λ j inside low. refl;
    range = tt;
    before = λ some j inside at. absurd (omega (arith, rises t bytes j inside));
    later = tt;
  }

  -- after the range no line is touched
  pub touched-passed : (low position next : ℕ) (found : List (ℕ × ℕ)) (u : ℕ × ℕ)
      → AreTouched k meaning bytes low position found (Some u)
      → AreTouched k meaning bytes u.1 next found None
  touched-passed low position next found u touched = record {
    same = λ j inside past. touched.same j inside (omega arith)
        ∙ not-in u (from j) (λ _ less. omega arith);
    range = tt;
    before = λ below j inside at. ⊎_elim (λ early.
        let here = touched.range.some (omega arith) in
        let after = comes-before touched.range.begins j early in
        absurd (omega (arith, starts-until touched.range.begins (j + 1) (omega arith)))) (λ late.
        touched.same j inside (omega arith)
        ∙ in-range u (from j) late (omega (arith, rises t bytes j inside))) (cases_lt (from j) u.0);
    later = tt;
  }

  -- the lines of the first match after that
  pub touched-first : (e position : ℕ) (found : List (ℕ × ℕ)) (m u : ℕ × ℕ)
      → AreTouched k meaning bytes e position found None
      → u ≡ block m → e ≤ u.0 → (0 < e → e < u.0) → u.0 ≤ m.0 → m.0 ≤ m.1 → m.1 ≤ u.1 → u.1
      ≤ length bytes → AreTouched k meaning bytes e (position_after m) (found ++ m ∷ []) (Some u)
  touched-first e position found m u touched is after apart low order high within =
      let start_is : u.0 ≡ block_start t bytes m = ap (λ x. x.0) is in
      let end_is : u.1 ≡ block_end t bytes m = ap (λ x. x.1) is in
      let first = block_start-edge t bytes m in
      let last = block_end-edge t bytes m in
      record {
        same = λ j inside over.
            let none = touched.same j inside over in
            touches-more found m j inside ∙ (ap (λ b. b || is_in (Some (block m)) (from j)) none
            ∙ ap (λ x. is_in (Some x) (from j)) (sym is));
        range = record {
          first = first.0;
          begins = rw start_is first.1;
          last = last.0;
          ends = rw end_is last.1;
          ordered = omega arith;
          within = within;
          after = after;
          apart = λ some _. apart some;
          some = λ below.
              let less = block-some t bytes m order (omega arith) (omega arith)
              (omega arith) in
              omega arith;
        };
        before = λ below j inside at. touched-still found m j inside
            (touched.before below j inside at);
        later = omega (
          arith,
          block_start-le t bytes m (position_after m, position_after m)
              (position_after-start m order),
        );
      }

  -- a match whose lines are in the range
  module _ (low position : ℕ) (found : List (ℕ × ℕ)) (u m : ℕ × ℕ)
      (touched : AreTouched k meaning bytes low position found (Some u))
      (next : position ≤ m.0) (order : m.0 ≤ m.1) where
    -- the block of the next match starts no earlier than the range
    starts-later : u.0 ≤ block_start t bytes m
    starts-later = omega (arith, block_start-le t bytes (position, position) m next)

    still-later : u.0 ≤ block_start t bytes (position_after m, position_after m)
    still-later = omega (
      arith,
      block_start-le t bytes (position, position) (position_after m, position_after m)
          (omega (arith, next, position_after-start m order)),
    )

    absorbed : ((j : ℕ) → j < n → from j < block_end t bytes m → from j < u.1)
        → AreTouched k meaning bytes low (position_after m) (found ++ m ∷ []) (Some u)
    absorbed early = record {
      same = λ j inside over. touches-more found m j inside
          ∙ (or-absorbs (touched_of found j) (is_in (Some (block m)) (from j)) (λ is.
          let parts = range-in (block m) (from j) is in
          touched.same j inside over ∙ in-range u (from j) (omega (arith, starts-later))
          (early j inside parts.1)) ∙ touched.same j inside over);
      range = touched.range;
      before = λ below j inside at. touched-still found m j inside
          (touched.before below j inside at);
      later = still-later;
    }

    -- a match that starts before the end of the range, and ends no later
    pub touched-inside : m.0 < u.1 → m.1 ≤ u.1 → AreTouched k meaning bytes low (position_after m)
        (found ++ m ∷ []) (Some u)
    touched-inside starts ends =
        absorbed (λ j inside less.
        omega (
          arith,
          block_end-within t bytes m u.1 touched.range.last touched.range.ends touched.range.within
              starts order ends,
        ))

    -- a match whose lines lead on from the range
    touched-joined : block_start t bytes m ≤ u.1 → u.1 ≤ block_end t bytes m → block_end t bytes m
        ≤ length bytes → AreTouched k meaning bytes low (position_after m) (found ++ m ∷ [])
        (Some (u.0, block_end t bytes m))
    touched-joined starts ends within =
        let last = block_end-edge t bytes m in
        record {
          same = λ j inside over. touches-more found m j inside
              ∙ (ap (λ b. b || is_in (Some (block m)) (from j)) (touched.same j inside over)
              ∙ or-joins u (block m) (from j) starts-later starts ends);
          range = record {
            first = touched.range.first;
            begins = touched.range.begins;
            last = last.0;
            ends = last.1;
            ordered = omega (arith, ends);
            within = within;
            after = touched.range.after;
            apart = touched.range.apart;
            some = λ below. omega (arith, touched.range.some below, ends);
          };
          before = λ below j inside at. touched-still found m j inside
              (touched.before below j inside at);
          later = still-later;
        }

  -- each line starts before the end of the bytes
  starts-inside : (j : ℕ) → j < n → from j < length bytes
  starts-inside = starts-before (end-start t bytes)

  -- a unit is the range of the matches that were found, if the lines of those after them are after
  -- it
  pub unit-of : (low position : ℕ) (found later : List (ℕ × ℕ)) (u : ℕ × ℕ)
      → AreTouched k meaning bytes low position found (Some u)
      → counted_matches k meaning bytes ≡ found ++ later → All (λ m. u.1 < block_start t bytes m)
      later → IsUnit k meaning bytes low u
  unit-of low position found later u touched all after = record {
    range = touched.range;
    miss = λ j inside over before. hit-of found later all j inside
        ∙ or_from _ _ (touched.same j inside over ∙ not-in u (from j) (λ more _. omega arith))
        (missed j (omega arith));
    hit = λ j inside over before. hit-of found later all j inside
        ∙ or_left _ _ (touched.same j inside (omega arith) ∙ in-range u (from j) over before);
    past = λ j inside at. hit-of found later all j inside
        ∙ or_from _ _ (touched.same j inside (omega arith)
        ∙ not-in u (from j) (λ _ less. omega arith)) (missed j (omega arith));
  }
    where
      missed : (j : ℕ) → from j ≤ u.1 → touched_of later j ≡ false
      missed j low = missed-before later j
          (All-weaker (λ m. u.1 < block_start t bytes m) (λ m. from j < block_start t bytes m)
          (λ m high. omega arith) later after)

  -- if there are no more matches, there is no other unit
  pub unit-none : (low position : ℕ) (found : List (ℕ × ℕ))
      → AreTouched k meaning bytes low position found None
      → counted_matches k meaning bytes ≡ found → low ≤ length bytes
      → IsUnit k meaning bytes low (length bytes, length bytes)
  unit-none low position found touched all inside =
      grind (arith, end-start, hit-of, append-nil, or-false, starts-inside)

  -- the end of the bytes is after all lines
  pub touched-end : (low position : ℕ) (found : List (ℕ × ℕ))
      → AreTouched k meaning bytes low position found None
      → AreTouched k meaning bytes (length bytes) position found None
  touched-end low position found touched = grind (arith, starts-inside)

  -- the whole lines of a match from a line start on
  module _ (e a : ℕ) (here : IsLineStart t bytes e a) (m p : ℕ × ℕ) (part : IsPart t bytes e m p)
      (order : m.0 ≤ m.1)
      (reach : e ≤ m.1) where
    -- if the match starts before it, they start there
    part-before : m.0 < e → p.0 ≡ e
    part-before before = grind arith

    -- if not, they start with the block of the match
    part-start : e < length bytes → e ≤ m.0 → p.0 ≡ block_start t bytes m
    part-start below after =
        part.begins ∙ block_start-part t bytes e a here below m (m.0 - e, m.1 - e) after refl

    -- they end with it
    part-end : e < length bytes → (m.0 < e → e < m.1) → p.1 ≡ block_end t bytes m
    part-end below over =
        part.ends ∙ block_end-part t bytes e a here below m (m.0 - e, m.1 - e) reach inner refl
        alike
      where
        inner : m.0 < m.1 → e < m.1
        inner some = ⊎_elim over (λ after. omega arith) (cases_lt m.0 e)

        alike : nat_lt (m.0 - e) (m.1 - e) ≡ nat_lt m.0 m.1
        alike = grind (arith, nat_tests, inner)

    -- if they start later, so does the match, and they are its block
    pub starts-there : e < p.0 → e ≤ m.0
    starts-there apart = ⊎_elim (λ before. absurd (omega (arith, part-before before)))
        (λ after. after) (cases_lt m.0 e)

    pub part-apart : e < p.0 → p ≡ block m
    part-apart apart = grind (arith, starts-there, ap₂, part-start, part-end)

  -- a match whose lines lead on from the range
  pub touched-part : (low position : ℕ) (found : List (ℕ × ℕ)) (u m p : ℕ × ℕ)
      → AreTouched k meaning bytes low position found (Some u)
      → position ≤ m.0 → m.0 ≤ m.1 → (m.0 < u.1 → u.1 < m.1) → IsPart t bytes u.1 m p → p.0 ≤ u.1
      → AreTouched k meaning bytes low (position_after m) (found ++ m ∷ []) (Some (u.0, p.1))
  touched-part low position found u m p touched next order over part joins = ⊎_elim (λ below.
      let stop = part-end u.1 last ends m p part order reach below over in
      let start : block_start t bytes m ≤ u.1 = ⊎_elim
      (λ before. omega (arith, block_start-low t bytes m (omega (arith, before, below))))
      (λ after. omega (arith, part-start u.1 last ends m p part order reach below after))
      (cases_lt m.0 u.1) in
      subst (λ x. AreTouched k meaning bytes low (position_after m) (found ++ m ∷ [])
      (Some (u.0, x))) (sym stop)
      (touched-joined low position found u m touched next order start (omega (arith, reach))
      (omega arith))) (λ all.
      let same : u.1 ≡ p.1 = omega (arith, reach) in
      subst (λ x. AreTouched k meaning bytes low (position_after m) (found ++ m ∷ [])
      (Some (u.0, x))) same (absorbed low position found u m touched next order
      (λ j inside less. omega (arith, starts-inside j inside)))) (cases_lt u.1 (length bytes))
    where
      last : ℕ
      last = touched.range.last

      ends : IsLineStart t bytes u.1 last
      ends = touched.range.ends

      reach : u.1 ≤ m.1
      reach = grind (arith, over, order)
