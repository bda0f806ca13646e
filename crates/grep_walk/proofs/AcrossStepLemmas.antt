-- A walk across lines, from line to line and from unit to unit.
use Rattle.std.proofs.Common.{◌≡◌, ℕ, zero, suc, ◌+◌, ◌-◌, ◌<◌, ◌≤◌, Bool, true, false, not, ◌&&◌}
use Rattle.std.proofs.Common.{List, [], ◌++◌, length, drop, refl, sym, ◌∙◌, ap, subst, arith}
use Rattle.std.proofs.Common.{if◌then◌else◌, length-take, length-drop}
use Rattle.std.proofs.Math.Path.{ap₂}
use Rattle.std.proofs.lemmas.List.Elements.{All-weaker}
use Rattle.std.specs.Prelude.{nat_lt, All, slice_range}
use Rattle.grep_matcher.specs.Lines.{lines, line_start, byte_of}
use Rattle.grep_matcher.specs.Meanings.{Meaning}
use Rattle.grep_lines.specs.Positions.{IsLine, IsLineStart}
use Rattle.grep_report.specs.declared.sink_context.SinkContextKind.TheVariants.{After, Other}
use Rattle.grep_definitions.specs.Plans.{is_touched_selected, is_free, count_below, Settings}
use Rattle.grep_definitions.specs.Plans.{Planned, selects_free, has_room, touched_lines}
use Rattle.grep_definitions.specs.Plans.{calls_before}
use Rattle.grep_definitions.specs.LineCalls.{context_calls, selected_calls, pending_calls}
use Rattle.grep_definitions.specs.SearchLaws.{number_of}
use Rattle.grep_definitions.proofs.BelowLemmas.{count_below-le, room-le}
use Rattle.grep_walk.specs.declared.walk.Walk.{Walk}
use Rattle.grep_walk.specs.AcrossWalks.{IsAcross, IsLimited, after_lines}
use Rattle.grep_walk.specs.Walks.{line_end, line_calls, after_line, skip_lines}
use Rattle.grep_definitions.proofs.AcrossWalkLemmas as calls
use Rattle.grep_walk.proofs.AcrossUnitLemmas.{IsChosen, IsNext, selected-inverted}
use Rattle.grep_lines.proofs.LineRangeLemmas.{lines-between}
use Rattle.grep_walk.proofs.WalkLemmas.{Bare, ended-next, ended-start, placed-next, placed-start}
use Rattle.grep_walk.proofs.WalkLemmas.{start-after, start_walk}
use Rattle.grep_report.specs.SinkReports.{Surroundings, surroundings}

-- one more number
count-next : (p : ℕ → Bool) (i : ℕ) → count_below p (i + 1)
    ≡ (if p i then count_below p i + 1 else count_below p i)
count-next p i = let one : i + 1 ≡ suc i = omega arith in rw one refl

module _ (k : Settings) (meaning : Meaning) (bytes : List ℕ) where
  abbrev S : ℕ → Bool
  S = is_touched_selected k meaning bytes

  abbrev free : ℕ → Bool
  free = is_free k meaning bytes

  abbrev Limited : ℕ → ℕ → Type 0
  Limited = IsLimited k meaning bytes

  -- the limit under inversion
  limited-missed : selects_free k ≡ true → (i c : ℕ) → Limited i c → S i ≡ false → Limited (i + 1) c
  limited-missed inverted i c limited missed =
      let more = count-next free i in
      let over = room-le k (count_below free i) (count_below free (i + 1))
      (count_below-le free i (i + 1) (omega arith)) in
      let hit = selected-inverted k meaning bytes inverted i in
      record {
        below = grind (arith, more, over, hit, missed, limited.below);
        counted = λ room. grind (
          arith,
          more,
          hit,
          missed,
          limited.below,
          limited.counted room,
          room,
        );
      }

  limited-lines : selects_free k ≡ true → (m i c : ℕ) → Limited i c
      → ((j : ℕ) → i ≤ j → j < i + m → S j ≡ false) → Limited (i + m) c
  limited-lines inverted zero i c limited missed =
      let same : i ≡ i + zero = omega arith in
      subst (λ j. Limited j c) same limited
  limited-lines inverted (suc m) i c limited missed =
      let sum : (i + 1) + m ≡ i + suc m = omega arith in
      subst (λ j. Limited j c) sum (limited-lines inverted m (i + 1) c
      (limited-missed inverted i c limited (missed i (omega arith) (omega arith)))
      (λ j low high. missed j (omega arith) (omega arith)))

  limited-hit : selects_free k ≡ true → (i c : ℕ) → Limited i c → has_room k c ≡ true → S i ≡ true
      → Limited (i + 1) (c + 1)
  limited-hit inverted i c limited room hit =
      let here = selected-inverted k meaning bytes inverted i in
      let more : count_below free (i + 1) ≡ c + 1 =
      grind (arith, count-next free i, here, hit, limited.counted room) in
      record {
        below = ap (has_room k) more;
        counted = λ room. more;
      }

  -- before the first line
  pub across-start : IsAcross k meaning bytes (start_walk k meaning bytes)
  across-start = record {
    placed = placed-start k meaning bytes;
    near = calls.near-none k meaning bytes;
    limited = λ inverted. record { below = refl; counted = λ room. refl };
    ended = ended-start k meaning bytes;
  }

-- a walk at a position
module _ {k : Settings} {meaning : Meaning} {bytes : List ℕ} {w : Walk} {p : ℕ} (same : w.offset
    ≡ p)
    (across : IsAcross k meaning bytes w) where
  abbrev here : ℕ → List ℕ
  here = slice_range bytes p

  abbrev starts : ℕ → ℕ
  starts = line_start (byte_of k.line_terminator) bytes

  abbrev count : List ℕ → ℕ
  count part = length (lines (byte_of k.line_terminator) part)

  abbrev front : ℕ → List Planned
  front = calls_before k bytes (touched_lines k meaning bytes)

  -- the calls of the line, if it isn't chosen, and those of the unit
  abbrev line-calls : ℕ → ℕ → List ℕ → List Planned
  line-calls offset end line =
      if nat_lt 0 w.after_context_left then context_calls After (number_of k w.line) offset end line
      else (if k.passthru then context_calls Other (number_of k w.line) offset end line else [])

  abbrev unit-calls : ℕ → ℕ → List ℕ → Surroundings → List Planned
  unit-calls offset end unit around =
      pending_calls k bytes w.next_unreported w.line end w.next_unreported
      (w.line - w.next_unreported) ++ selected_calls k w.next_unreported w.line offset end unit around

  at-start : IsLineStart (byte_of k.line_terminator) bytes p w.line
  at-start = subst (λ o. IsLineStart (byte_of k.line_terminator) bytes o w.line) same
      across.placed.at

  size : (q : ℕ) → p ≤ q → q ≤ length bytes → line_end w (here q) ≡ q
  size q low within = omega (arith, length-take (q - p) (drop p bytes), length-drop p bytes)

  -- lines that are passed unreported
  pub across-past : {q : ℕ} → IsNext k meaning bytes w p q → k.passthru ≡ false
      → w.after_context_left ≡ 0 → IsAcross k meaning bytes (skip_lines k w (here q))
  across-past {q} next plain none =
      let end = size q next.from next.within in
      let passed : w.line + count (here q) ≡ next.last = omega (
        arith,
        lines-between (byte_of k.line_terminator) bytes p q w.line next.last at-start next.at
            next.from next.within next.low,
      ) in
      let near = calls.near-skipped k meaning bytes next.last
      (subst (λ l. calls.Near k meaning bytes w.next_unreported w.line l) none across.near) plain
      next.low next.at.listed next.missed in
      record {
        placed = record {
          at = record {
            listed = omega arith;
            begins = ap starts passed ∙ (next.at.begins ∙ sym end);
          };
          inside = omega arith;
          low = omega arith;
          few = omega arith;
        };
        near = subst (λ e. calls.Near k meaning bytes w.next_unreported e w.after_context_left)
            (sym passed)
            (subst (λ l. calls.Near k meaning bytes w.next_unreported next.last l) (sym none) near);
        limited = λ inverted. limited-lines k meaning bytes inverted (count (here q)) w.line
            w.match_count (across.limited inverted) (λ j low high. next.missed j low (omega arith));
        ended = All-weaker (λ call. call.if_false.count ≤ w.offset) (λ call. call.if_false.count
            ≤ w.offset + length (here q))
            (λ call low. omega arith) (front w.next_unreported) across.ended;
      }

  -- a line that isn't chosen
  module _ {q : ℕ} (bare : Bare k meaning bytes) (line : IsLine (byte_of k.line_terminator) bytes
      w.line p q)
      (missed : is_touched_selected k meaning bytes w.line ≡ false) where
    pub front-missed : front (after_line k w (here q) false).next_unreported
        ≡ front w.next_unreported ++ line_calls k bytes w (here q) (surroundings bytes p q) false false
    front-missed =
        let own = slice_range bytes (starts w.line) (starts (w.line + 1)) in
        calls.front-missed k meaning bytes bare across.near line.listed missed
        ∙ ap (λ calls. front w.next_unreported ++ calls)
        (ap (λ o. line-calls o (starts (w.line + 1)) own) (line.begins ∙ sym same)
        ∙ (ap (λ e. line-calls w.offset e own) (start-after k meaning bytes w same line)
        ∙ ap₂ (λ a b. line-calls w.offset (line_end w (here q)) (slice_range bytes a b)) line.begins
        line.ends))

    pub across-missed : IsAcross k meaning bytes (after_line k w (here q) false)
    across-missed = record {
      placed = placed-next k meaning bytes w same line across.placed false;
      near = calls.near-missed k meaning bytes bare across.near line.listed missed;
      limited = λ inverted. limited-missed k meaning bytes inverted w.line w.match_count
          (across.limited inverted) missed;
      ended = subst (All (λ call. call.if_false.count ≤ line_end w (here q))) (sym front-missed)
          (ended-next k bytes w (here q) (surroundings bytes p q) false false (front w.next_unreported) across.ended);
    }

  -- a chosen line, or a unit of them
  module _ {q : ℕ} (below : p < q) (within : q ≤ length bytes)
      (chosen : IsChosen k meaning bytes w q) where
    unit-end : line_end w (here q) ≡ q
    unit-end = size q (omega arith) within

    count-chosen : w.line + count (here q) ≡ chosen.last
    count-chosen = omega (
      arith,
      lines-between (byte_of k.line_terminator) bytes p q w.line chosen.last at-start chosen.at
          (omega arith) within (omega (arith, chosen.some)),
    )

    abbrev walk-to : ℕ → Walk
    walk-to e = record {
      offset = line_end w (here q);
      line = e;
      next_unreported = e;
      after_context_left = k.after_context;
      match_count = w.match_count + 1;
    }

    pub walk-is : after_lines k w (here q) true ≡ walk-to chosen.last
    walk-is = go (selects_free k) refl
      where
        go : (b : Bool) → selects_free k ≡ b
            → (if true && not b then walk-to (w.line + count (here q))
            else after_line k w (here q) true)
            ≡ walk-to chosen.last
        go true is = ap walk-to (sym (chosen.single is))
        go false is = ap walk-to count-chosen

    pub front-chosen : front (after_lines k w (here q) true).next_unreported
        ≡ front w.next_unreported ++ line_calls k bytes w (here q) (surroundings bytes p q) true false
    front-chosen =
        let own = slice_range bytes (starts w.line) (starts chosen.last) in
        let around = surroundings bytes (starts w.line) (starts chosen.last) in
        ap (λ (next : Walk). front next.next_unreported) walk-is
        ∙ (calls.front-unit k meaning bytes chosen.last across.near
        chosen.some chosen.at.listed chosen.hits chosen.closed chosen.single chosen.first
        ∙ ap (λ calls. front w.next_unreported ++ calls)
        (ap (λ e. unit-calls (starts w.line) e own around) (chosen.at.begins ∙ sym unit-end)
        ∙ (ap (λ o. unit-calls o (line_end w (here q)) own around) across.placed.at.begins
        ∙ ap₂ (λ a b. unit-calls w.offset (line_end w (here q)) (slice_range bytes a b)
        (surroundings bytes a b))
        (across.placed.at.begins ∙ same) chosen.at.begins)))

    across-to : IsAcross k meaning bytes (walk-to chosen.last)
    across-to = record {
      placed = record {
        at = record { listed = chosen.at.listed; begins = chosen.at.begins ∙ sym unit-end };
        inside = omega (arith, unit-end);
        low = omega arith;
        few = omega arith;
      };
      near = calls.near-unit k meaning bytes w.line chosen.last chosen.some chosen.at.listed
          chosen.hits;
      limited = λ inverted. subst (λ e. IsLimited k meaning bytes e (w.match_count + 1))
          (sym (chosen.single inverted))
          (limited-hit k meaning bytes inverted w.line w.match_count (across.limited inverted)
          (chosen.room inverted) (chosen.hits w.line (omega arith) chosen.some));
      ended = subst (All (λ call. call.if_false.count ≤ line_end w (here q)))
          (sym (sym (ap (λ (next : Walk). front next.next_unreported) walk-is) ∙ front-chosen))
          (ended-next k bytes w (here q) (surroundings bytes p q) true false (front w.next_unreported) across.ended);
    }

    pub across-chosen : IsAcross k meaning bytes (after_lines k w (here q) true)
    across-chosen = subst (IsAcross k meaning bytes) (sym walk-is) across-to
