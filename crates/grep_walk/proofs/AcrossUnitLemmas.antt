-- The unit of lines that a walk across lines comes to, the lines that aren't chosen before it, and
-- the lines that are.
use Rattle.std.proofs.Common.{◌≡◌, ℕ, ◌+◌, ◌-◌, ◌<◌, ◌≤◌, ◌==◌, Bool, true, false, not, ◌&&◌, List}
use Rattle.std.proofs.Common.{length, if◌then◌else◌, refl, ◌∙◌, ap, arith, ⊎_elim}
use Rattle.std.proofs.Math.Bool.{and-false}
use Rattle.std.proofs.lemmas.Bool.Decides.{nat_tests}
use Rattle.std.proofs.lemmas.Bool.{lt-ltb, ltb-true, ltb-false, cases_Bool, cases_lt, and_from}
use Rattle.std.specs.Prelude.{nat_lt, IfOk, Result, Ok, Err}
use Rattle.grep_matcher.specs.Lines.{lines, byte_of}
use Rattle.grep_matcher.specs.Meanings.{Meaning}
use Rattle.grep_lines.specs.Positions.{IsLine, IsLineStart}
use Rattle.grep_definitions.specs.Plans.{continues, is_touched_selected, line_count, touched_lines}
use Rattle.grep_definitions.specs.Plans.{is_free, count_below, Settings, has_room, selects_free}
use Rattle.grep_definitions.proofs.BelowLemmas.{count_below-le, room-le, room-first}
use Rattle.grep_definitions.proofs.BoolLemmas.{clash}
use Rattle.grep_walk.specs.declared.blocks.Blocks.{Blocks}
use Rattle.grep_walk.specs.declared.walk.Walk.{Walk}
use Rattle.grep_walk.specs.AcrossWalks.{IsAcross, IsComing, IsAtUnit, is_done, is_joined}
use Rattle.grep_walk.specs.AcrossWalks.{next_chosen}
use Rattle.grep_walk.specs.TouchedUnits.{AreLeft, IsUnit, is_counted}
use Rattle.grep_lines.proofs.LineRangeLemmas.{starts-before, starts-from, starts-until}
use Rattle.grep_lines.proofs.LineRangeLemmas.{comes-before, comes-from, end-start}

module _ (k : Settings) (meaning : Meaning) (bytes : List ℕ) where
  abbrev t : ℕ
  t = byte_of k.line_terminator

  abbrev n : ℕ
  n = length (lines t bytes)

  abbrev S : ℕ → Bool
  S = is_touched_selected k meaning bytes

  abbrev free : ℕ → Bool
  free = is_free k meaning bytes

  -- which lines are selected, by which are touched
  selected-plain : selects_free k ≡ false → (j : ℕ) → S j ≡ is_counted k meaning bytes j
  selected-plain plain j = rw plain refl

  pub selected-inverted : selects_free k ≡ true → (j : ℕ) → S j
      ≡ (free j && has_room k (count_below free j))
  selected-inverted inverted j = rw inverted refl

  -- if the limit isn't 0
  free-is : selects_free k ≡ true → has_room k 0 ≡ true → (j : ℕ) → j < n → free j
      ≡ not (is_counted k meaning bytes j)
  free-is inverted some j inside = let test = lt-ltb j n inside in rw (test, inverted, some) refl

  -- the next unit, which is looked for at the end of the last one
  module _ (start i low : ℕ) (unit : ℕ × ℕ) (some : start < length bytes)
      (at : IsLineStart t bytes start i) (same : start ≡ low)
      (is_unit : IsUnit k meaning bytes low unit) where
    -- the line before it comes after the end of the last one
    between : 0 < is_unit.range.first → i < is_unit.range.first
    between above = comes-before is_unit.range.begins i (⊎_elim
        (λ later. omega (arith, is_unit.range.apart later (omega arith)))
        (λ none. omega (arith, starts-before is_unit.range.begins 0 above)) (cases_lt 0 low))

    coming-next : IsComing k meaning bytes start unit
    coming-next = record {
      low = low;
      is_unit = is_unit;
      after = omega arith;
      before = omega arith;
      whole = λ plain. omega arith;
      alone = λ above. is_unit.miss (is_unit.range.first - 1) (omega arith)
          (omega (arith, starts-from at (is_unit.range.first - 1) (omega (arith, between above))))
          (starts-before is_unit.range.begins (is_unit.range.first - 1) (omega arith));
    }

  ready-next : (start : ℕ) (w : Walk) (unit : ℕ × ℕ) (old new : Blocks) → start < length bytes
      → IsLineStart t bytes start w.line
      → (is_done k w ≡ false → start ≡ old.end) → IsUnit k meaning bytes old.end unit → new.end
      ≡ unit.1 → AreLeft k meaning bytes new → IsAtUnit k meaning bytes start w unit new
  ready-next start w unit old new some at same is_unit end left = grind (arith, coming-next)

  pub ready-found : {E : Type 0} (start : ℕ) (w : Walk) (old new : Blocks)
      (found : Result (ℕ × ℕ) E) → start < length bytes
      → IsLineStart t bytes start w.line → (is_done k w ≡ false → start ≡ old.end)
      → IfOk found (IsUnit k meaning bytes old.end)
      → IfOk found (λ unit. new.end ≡ unit.1) → IfOk found (λ unit. AreLeft k meaning bytes new)
      → IfOk found (λ unit. IsAtUnit k meaning bytes start w unit new)
  ready-found start w old new (Ok unit) some at same is_unit end left =
      ready-next start w unit old new some at same is_unit end left
  ready-found start w old new (Err e) some at same is_unit end left = tt

  -- the lines from a walk's line up to a position aren't selected
  pub record IsNext (w : Walk) (start next : ℕ) : Type 0 where
    pub last : ℕ
    pub at : IsLineStart t bytes next last
    pub low : w.line ≤ last
    pub from : start ≤ next
    pub within : next ≤ length bytes
    pub missed : (j : ℕ) → w.line ≤ j → j < last → S j ≡ false

  -- those from a walk's line up to the end are a unit
  pub record IsChosen (w : Walk) (end : ℕ) : Type 0 where
    pub last : ℕ
    pub at : IsLineStart t bytes end last
    pub some : w.line < last
    pub hits : (j : ℕ) → w.line ≤ j → j < last → S j ≡ true
    pub closed : selects_free k ≡ false → last < n → S last ≡ false
    pub single : selects_free k ≡ true → last ≡ w.line + 1
    pub first : continues k bytes (touched_lines k meaning bytes) w.line ≡ false
    pub room : selects_free k ≡ true → has_room k w.match_count ≡ true

-- a walk that has come to a unit or is in it
module _ {k : Settings} {meaning : Meaning} {bytes : List ℕ} {start : ℕ} {w : Walk} {unit : ℕ × ℕ}
    {blocks : Blocks}
    (across : IsAcross k meaning bytes w) (at : IsLineStart (byte_of k.line_terminator) bytes start
    w.line) (ready : IsAtUnit k meaning bytes start w unit blocks) (some : start < length bytes)
    (ahead : is_done k w ≡ false → start < unit.1) where
  abbrev Chosen : Bool → Bool → Bool → ℕ
  Chosen b c d = if not b then unit.0
      else (if not c then length bytes else (if d then start else unit.1))

  abbrev next : ℕ
  next = next_chosen k bytes start unit w

  abbrev room : Bool
  room = has_room k w.match_count

  come : is_done k w ≡ false → IsComing k meaning bytes start unit
  come goes = ready.coming goes (ahead goes)

  -- the limit has room for as many lines as were chosen
  room-is : selects_free k ≡ true → room ≡ true
      → has_room k (count_below (is_free k meaning bytes) w.line) ≡ true
  room-is inverted some = (across.limited inverted).below ∙ some

  pub next-is : IsNext k meaning bytes w start next
  next-is = go (selects_free k) room (nat_lt start unit.0) refl refl refl
    where
      go : (b c d : Bool) → selects_free k ≡ b → room ≡ c → nat_lt start unit.0 ≡ d
          → IsNext k meaning bytes w start (Chosen b c d)
      go false c d is_b is_c is_d =
          let here = come (grind (arith, is_b)) in
          let whole = here.whole is_b in
          record {
            last = here.is_unit.range.first;
            at = here.is_unit.range.begins;
            low = comes-from at here.is_unit.range.first (omega arith);
            from = whole;
            within = omega arith;
            missed = λ j low high. selected-plain k meaning bytes is_b j
                ∙ here.is_unit.miss j (omega arith) (omega (arith, starts-from at j low))
                (starts-before here.is_unit.range.begins j high);
          }
      go true false d is_b is_c is_d =
          let free = is_free k meaning bytes in
          let over = (across.limited is_b).below ∙ is_c in
          record {
            last = line_count k bytes;
            at = end-start (byte_of k.line_terminator) bytes;
            low = at.listed;
            from = omega arith;
            within = omega arith;
            missed = λ j low high.
                let none = room-le k (count_below free w.line) (count_below free j)
                (count_below-le free w.line j low) over in
                selected-inverted k meaning bytes is_b j
                ∙ (ap (λ b. free j && b) none ∙ and-false (free j));
          }
      go true true true is_b is_c is_d = record {
        last = w.line;
        at = at;
        low = omega arith;
        from = omega arith;
        within = omega arith;
        missed = λ j low high. absurd (omega arith);
      }
      go true true false is_b is_c is_d =
          let here = come (grind (arith, is_c)) in
          let over = ltb-false start unit.0 is_d in
          let free = is_free k meaning bytes in
          record {
            last = here.is_unit.range.last;
            at = here.is_unit.range.ends;
            low = comes-from at here.is_unit.range.last (omega arith);
            from = here.before;
            within = ready.within;
            missed = λ j low high.
                let inside : j < line_count k bytes = omega arith in
                let hit = here.is_unit.hit j inside (omega (arith, starts-from at j low))
                (starts-before here.is_unit.range.ends j high) in
                selected-inverted k meaning bytes is_b j
                ∙ ap (λ b. b && has_room k (count_below free j))
                (free-is k meaning bytes is_b (room-first k _ (room-is is_b is_c)) j inside
                ∙ ap not hit);
          }

  -- past the lines that aren't chosen the walk comes to the unit, or has passed it
  coming-past : is_done k w ≡ false → (next ≤ unit.1)
      × (next < unit.1 → IsComing k meaning bytes next unit)
  coming-past goes = go (selects_free k) room (nat_lt start unit.0) refl refl
    where
      go : (b c d : Bool) → selects_free k ≡ b → room ≡ c → (Chosen b c d ≤ unit.1)
          × (Chosen b c d < unit.1 → IsComing k meaning bytes (Chosen b c d) unit)
      go false c d is_b is_c =
          let here = come goes in
          let whole = here.whole is_b in (
            ready.ordered,
            λ less. record {
              low = here.low;
              is_unit = here.is_unit;
              after = omega arith;
              before = ready.ordered;
              whole = λ plain. omega arith;
              alone = here.alone;
            },
          )
      go true false d is_b is_c = absurd (grind (arith, is_b, is_c, goes))
      go true true true is_b is_c = (omega (arith, ahead goes), λ less. come goes)
      go true true false is_b is_c = (omega arith, λ less. absurd (omega arith))

  pub ready-past : (new : Walk) (p : ℕ) → p ≡ next → new.match_count ≡ w.match_count
      → IsAtUnit k meaning bytes p new unit blocks
  ready-past new p is same = grind (arith, coming-past)

  -- after a line it comes to the unit, or is in it
  coming-line : (end : ℕ) → IsLine (byte_of k.line_terminator) bytes w.line start end → is_done k w
      ≡ false → (selects_free k ≡ false → start < unit.0) → IsComing k meaning bytes end unit
  coming-line end line goes plain =
      let here = come goes in
      record {
        low = here.low;
        is_unit = here.is_unit;
        after = omega arith;
        before = till here.is_unit.range.ends (ahead goes);
        whole = λ yes. till here.is_unit.range.begins (plain yes);
        alone = here.alone;
      }
    where
      till : {p i : ℕ} → IsLineStart (byte_of k.line_terminator) bytes p i → start < p → end ≤ p
      till there less =
          let later = comes-before there w.line (omega arith) in
          omega (arith, starts-until there (w.line + 1) (omega arith))

  -- what is known if the end of the bytes that were passed is known
  module _ {end : ℕ} (chosen : Bool) (joined : is_joined k chosen ≡ true → end ≡ unit.1)
      (single : is_joined k chosen ≡ false → (i : ℕ) → IsLineStart (byte_of k.line_terminator) bytes
      start i
      → IsLine (byte_of k.line_terminator) bytes i start end) where
    pub ready-after : (new : Walk) → (is_done k new ≡ false → is_done k w ≡ false) → chosen
        ≡ (start == next) → IsAtUnit k meaning bytes end new unit blocks
    ready-after new back is = record {
      left = ready.left;
      end = ready.end;
      ordered = ready.ordered;
      within = ready.within;
      before = λ goes. ⊎_elim (λ whole. omega (arith, joined whole))
          (λ part. (later (back goes) part).before) (cases_Bool (is_joined k chosen));
      coming = λ goes less. ⊎_elim (λ whole. absurd (omega (arith, joined whole)))
          (later (back goes)) (cases_Bool (is_joined k chosen));
    }
      where
        outside : is_done k w ≡ false → is_joined k chosen ≡ false → selects_free k ≡ false → start
            < unit.0
        outside goes part plain = ⊎_elim (λ less. less) (λ over.
            let whole = (come goes).whole plain in
            absurd (grind (arith, nat_tests, is, part, plain, over, whole))) (cases_lt start unit.0)

        later : is_done k w ≡ false → is_joined k chosen ≡ false → IsComing k meaning bytes end unit
        later goes part = coming-line end (single part w.line at) goes (outside goes part)

  pub chosen-is : {end : ℕ} → start ≡ next → (is_joined k true ≡ true → end ≡ unit.1)
      → (is_joined k true ≡ false → (i : ℕ) → IsLineStart (byte_of k.line_terminator) bytes start i
      → IsLine (byte_of k.line_terminator) bytes i start end) → IsChosen k meaning bytes w end
  chosen-is {end} = go (selects_free k) room (nat_lt start unit.0) refl refl refl
    where
      S : ℕ → Bool
      S = is_touched_selected k meaning bytes

      go : (b c d : Bool) → selects_free k ≡ b → room ≡ c → nat_lt start unit.0 ≡ d → start
          ≡ Chosen b c d → (is_joined k true ≡ true → end ≡ unit.1)
          → (is_joined k true ≡ false → (i : ℕ) → IsLineStart (byte_of k.line_terminator) bytes
          start i → IsLine (byte_of k.line_terminator) bytes i start end)
          → IsChosen k meaning bytes w end
      go false c d is_b is_c is_d same joined single =
          let here = come (grind (arith, is_b)) in
          let less = ahead (grind (arith, is_b)) in
          let is_end = joined (ap not is_b) in
          let plain = selected-plain k meaning bytes is_b in
          let low = comes-from at here.is_unit.range.first (omega arith) in
          let high = comes-from here.is_unit.range.begins w.line (omega arith) in
          let index : w.line ≡ here.is_unit.range.first = omega arith in
          record {
            last = here.is_unit.range.last;
            at = rw is_end here.is_unit.range.ends;
            some = comes-before here.is_unit.range.ends w.line (omega arith);
            hits = λ j low high.
                plain j ∙ here.is_unit.hit j (omega arith) (omega (arith, starts-from at j low))
                (starts-before here.is_unit.range.ends j high);
            closed = λ _ inside. plain _ ∙ here.is_unit.past here.is_unit.range.last inside
                here.is_unit.range.ends.begins;
            single = λ inverted. absurd (clash inverted is_b);
            first = ⊎_elim
                (λ above. grind (arith, plain (w.line - 1), index, here.alone (omega arith)))
                (λ none. grind (arith, nat_tests, none)) (cases_lt 0 w.line);
            room = λ inverted. absurd (clash inverted is_b);
          }
      go true false d is_b is_c is_d same joined single = absurd (omega arith)
      go true true false is_b is_c is_d same joined single =
          absurd (omega (arith, ahead (grind (arith, is_c))))
      go true true true is_b is_c is_d same joined single =
          let here = come (grind (arith, is_c)) in
          let line = single (ap not is_b) w.line at in
          let missed = here.is_unit.miss w.line line.listed (omega arith)
          (omega (arith, ltb-true start unit.0 is_d)) in
          let is_open = room-is is_b is_c in
          let hit = selected-inverted k meaning bytes is_b w.line
          ∙ and_from (is_free k meaning bytes w.line) _
          (free-is k meaning bytes is_b (room-first k _ is_open) w.line line.listed ∙ ap not missed)
          is_open in
          record {
            last = w.line + 1;
            at = record { listed = omega arith; begins = line.ends };
            some = omega arith;
            hits = λ j low high. let index : j ≡ w.line = omega arith in ap S index ∙ hit;
            closed = λ plain inside. absurd (clash is_b plain);
            single = λ inverted. refl;
            first = grind (arith, is_b);
            room = λ inverted. is_c;
          }
