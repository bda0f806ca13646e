-- The walk of a search across lines: what it knows of the lines before it and of the unit that it
-- comes to, and how lines move it on. No contract of grep_searcher cites these definitions.
use Rattle.grep_definitions.specs.LineWalks.{IsNear}
use Rattle.grep_definitions.specs.Plans.{touched_lines, is_free, count_below, has_room}
use Rattle.grep_definitions.specs.Plans.{selects_free, Settings, calls_before}
use Rattle.std.specs.Prelude.{◌≡◌, ℕ, ◌+◌, ◌-◌, ◌<◌, ◌≤◌, Bool, true, false, not, ◌&&◌, nat_lt}
use Rattle.std.specs.Prelude.{if◌then◌else◌, List, length, All}
use Rattle.grep_matcher.specs.Lines.{lines, byte_of}
use Rattle.grep_matcher.specs.Meanings.{Meaning}
use Rattle.grep_walk.specs.declared.blocks.Blocks.{Blocks}
use Rattle.grep_walk.specs.declared.walk.Walk.{Walk}
use Rattle.grep_walk.specs.TouchedUnits.{AreLeft, IsUnit, is_counted}
use Rattle.grep_walk.specs.Walks.{IsPlaced, line_end, after_line}

-- whether as many lines were chosen under inversion as the limit has
abbrev pub is_done : Settings → Walk → Bool
is_done settings w = selects_free settings && not (has_room settings w.match_count)

-- where the next chosen line begins, as far as is known from the unit that a walk at `start` comes
-- to or is in
abbrev pub next_chosen : Settings → List ℕ → ℕ → ℕ × ℕ → Walk → ℕ
next_chosen settings bytes start unit w =
    if not (selects_free settings) then unit.0
    else (if not (has_room settings w.match_count) then length bytes
    else (if nat_lt start unit.0 then start else unit.1))

-- whether a chosen line is reported with the other lines of its unit
abbrev pub is_joined : Settings → Bool → Bool
is_joined settings chosen = chosen && not (selects_free settings)

-- the walk after a line, or after a unit of chosen lines
abbrev pub after_lines : Settings → Walk → List ℕ → Bool → Walk
after_lines settings w unit chosen =
    if is_joined settings chosen
    then record {
      offset = line_end w unit;
      line = w.line + length (lines (byte_of settings.line_terminator) unit);
      next_unreported = w.line + length (lines (byte_of settings.line_terminator) unit);
      after_context_left = settings.after_context;
      match_count = w.match_count + 1;
    }
    else after_line settings w unit chosen

module _ (settings : Settings) (meaning : Meaning) (bytes : List ℕ) where
  -- what a walk at line i knows of the limit under inversion, if c lines were chosen
  pub record IsLimited (i c : ℕ) : Type 0 where
    pub below : has_room settings (count_below (is_free settings meaning bytes) i)
        ≡ has_room settings c
    pub counted : has_room settings c ≡ true → count_below (is_free settings meaning bytes) i ≡ c

  -- where a walk is, and what it knows of the lines before it
  pub record IsAcross (w : Walk) : Type 0 where
    pub placed : IsPlaced settings meaning bytes w
    pub near : IsNear settings bytes (touched_lines settings meaning bytes) w.next_unreported
        w.line w.after_context_left
    pub limited : selects_free settings ≡ true → IsLimited w.line w.match_count
    pub ended : All (λ call. call.if_false.count ≤ w.offset)
        (calls_before settings bytes (touched_lines settings meaning bytes) w.next_unreported)

  -- a walk at `start` comes to a unit or is in it: without inversion it comes to it. No match
  -- touches the line before the unit
  pub record IsComing (start : ℕ) (unit : ℕ × ℕ) : Type 0 where
    pub low : ℕ
    pub is_unit : IsUnit settings meaning bytes low unit
    pub after : low ≤ start
    pub before : start ≤ unit.1
    pub whole : selects_free settings ≡ false → start ≤ unit.0
    pub alone : 0 < is_unit.range.first
        → is_counted settings meaning bytes (is_unit.range.first - 1) ≡ false

  -- a walk at `start` has come to a unit or is in it, or is at its end. Nothing is known of it if
  -- no more lines are chosen
  pub record IsAtUnit (start : ℕ) (w : Walk) (unit : ℕ × ℕ) (blocks : Blocks) : Type 0 where
    pub left : AreLeft settings meaning bytes blocks
    pub end : blocks.end ≡ unit.1
    pub ordered : unit.0 ≤ unit.1
    pub within : unit.1 ≤ length bytes
    pub before : is_done settings w ≡ false → start ≤ unit.1
    pub coming : is_done settings w ≡ false → start < unit.1 → IsComing start unit
