-- What a walk across lines comes to after a line that isn't chosen, or after a unit.
use Rattle.std.proofs.Common.{◌≡◌, ℕ, ◌-◌, ◌<◌, ◌≤◌, ◌==◌, Bool, true, false, List, [], ◌++◌}
use Rattle.std.proofs.Common.{length, drop, refl, sym, ◌∙◌, ap, subst, arith, length-take}
use Rattle.std.proofs.Common.{length-drop}
use Rattle.std.proofs.lemmas.Bool.Decides.{nat_tests}
use Rattle.std.proofs.lemmas.Bool.{eqb-true}
use Rattle.grep_matcher.specs.Meanings.{Meaning}
use Rattle.grep_matcher.specs.Lines.{byte_of}
use Rattle.std.specs.Prelude.{slice_range}
use Rattle.grep_lines.specs.Positions.{IsLine, IsLineStart}
use Rattle.grep_lines.proofs.LineStepLemmas.{IsAt-start}
use Rattle.grep_definitions.specs.Plans.{Settings, touched_lines, calls_before}
use Rattle.grep_walk.specs.declared.blocks.Blocks.{Blocks}
use Rattle.grep_walk.specs.declared.walk.Walk.{Walk}
use Rattle.grep_walk.specs.AcrossWalks.{IsAcross, IsAtUnit, is_done, is_joined, next_chosen}
use Rattle.grep_walk.specs.AcrossWalks.{after_lines}
use Rattle.grep_walk.specs.Walks.{IsOrdered, line_end, line_calls}
use Rattle.grep_walk.specs.Windows.{IsInWindow}
use Rattle.grep_walk.proofs.AcrossStepLemmas as steps
use Rattle.grep_walk.proofs.AcrossUnitLemmas as units
use Rattle.grep_walk.proofs.AcrossUnitLemmas.{IsChosen}
use Rattle.grep_lines.proofs.LineRangeLemmas.{comes-before}
use Rattle.grep_walk.proofs.WalkLemmas.{Bare}
use Rattle.grep_walk.proofs.WindowLemmas.{own-window}
use Rattle.grep_report.specs.SinkReports.{surroundings}

module _ (k : Settings) (meaning : Meaning) (bytes : List ℕ) where
  abbrev t : ℕ
  t = byte_of k.line_terminator

  -- the counts of a walk are in order, and its window is the whole
  pub ordered-across : (w : Walk) → IsAcross k meaning bytes w → IsOrdered w
  ordered-across w across = record {
    few = (IsAt-start t bytes w.offset w.line across.placed.at).few;
    low = across.placed.low;
    chosen = across.placed.few;
  }

  pub in-window : (w : Walk) (start : ℕ) → w.offset ≡ start → IsAcross k meaning bytes w
      → IsInWindow k [] bytes bytes start w
  in-window w start same across = grind (arith, own-window)

  -- the walk after it, its calls, and the unit that is next
  pub record IsMoved (start end : ℕ) (w : Walk) (unit : ℕ × ℕ) (blocks : Blocks) (chosen : Bool) :
      Type 0 where
    pub across : IsAcross k meaning bytes (after_lines k w (slice_range bytes start end) chosen)
    pub front : calls_before k bytes (touched_lines k meaning bytes)
        (after_lines k w (slice_range bytes start end) chosen).next_unreported
        ≡ calls_before k bytes (touched_lines k meaning bytes) w.next_unreported
        ++ line_calls k bytes w (slice_range bytes start end) (surroundings bytes start end) chosen false
    pub ready : IsAtUnit k meaning bytes end (after_lines k w (slice_range bytes start end) chosen)
        unit blocks
    pub offset : (after_lines k w (slice_range bytes start end) chosen).offset ≡ end
    pub end_is : line_end w (slice_range bytes start end) ≡ end

module _ {k : Settings} {meaning : Meaning} {bytes : List ℕ} {start end next : ℕ} {w : Walk}
    {unit : ℕ × ℕ}
    {blocks : Blocks} (bare : Bare k meaning bytes) (across : IsAcross k meaning bytes w)
    (same : w.offset ≡ start)
    (ready : IsAtUnit k meaning bytes start w unit blocks) (ahead : is_done k w ≡ false → start
    < unit.1)
    (is_next : next ≡ next_chosen k bytes start unit w) (below : start < end) (within : end
    ≤ length bytes) where
  at : IsLineStart (byte_of k.line_terminator) bytes start w.line
  at = subst (λ o. IsLineStart (byte_of k.line_terminator) bytes o w.line) same across.placed.at

  some : start < length bytes
  some = omega arith

  size : line_end w (slice_range bytes start end) ≡ end
  size = omega (arith, length-take (end - start) (drop start bytes), length-drop start bytes)

  open-chosen : IsChosen k meaning bytes w end → is_done k w ≡ false
  open-chosen chosen = grind (arith, chosen.room)

  pub reportable : (chosen : Bool) → chosen ≡ (start == next)
      → (is_joined k chosen ≡ true → end ≡ unit.1)
      → (is_joined k chosen ≡ false → (i : ℕ) → IsLineStart (byte_of k.line_terminator) bytes start
      i → IsLine (byte_of k.line_terminator) bytes i start end)
      → IsMoved k meaning bytes start end w unit blocks chosen
  reportable true is joined single =
      let there = eqb-true start next (sym is) ∙ is_next in
      let chosen = units.chosen-is across at ready some ahead there joined single in
      record {
        across = steps.across-chosen same across below within chosen;
        front = steps.front-chosen same across below within chosen;
        ready = units.ready-after across at ready some ahead true joined single _
            (λ goes. open-chosen chosen) (is ∙ ap (λ p. start == p) is_next);
        offset = ap (λ (v : Walk). v.offset) (steps.walk-is same across below within chosen) ∙ size;
        end_is = size;
      }
  reportable false is joined single =
      let line = single refl w.line at in
      let later = units.next-is across at ready some ahead in
      let above : start < next_chosen k bytes start unit w =
      grind (arith, nat_tests, later.from, is, is_next) in
      let missed = later.missed w.line (omega arith)
      (comes-before later.at w.line (omega (arith, at.begins))) in
      record {
        across = steps.across-missed same across bare line missed;
        front = steps.front-missed same across bare line missed;
        ready = units.ready-after across at ready some ahead false joined single _
            (λ goes. goes) (is ∙ ap (λ p. start == p) is_next);
        offset = size;
        end_is = size;
      }
