-- The units of lines that the matches of a search across lines touch, one after another. No
-- contract of grep_searcher cites these definitions.
use Rattle.std.specs.Prelude.{◌≡◌, ℕ, ◌+◌, ◌-◌, ◌<◌, ◌≤◌, Bool, true, false, ◌&&◌, nat_lt, nat_le}
use Rattle.std.specs.Prelude.{List, [], ◌∷◌, ◌++◌, length, drop, Option, Some, None, IfSome, IfNone}
use Rattle.std.specs.List.{list_any}
use Rattle.std.specs.Option.{option_map}
use Rattle.grep_matcher.specs.Meanings.{Meaning}
use Rattle.grep_matcher.specs.Lines.{byte_of}
use Rattle.grep_lines.specs.Blocks.{block_start, block_end}
use Rattle.grep_lines.specs.Positions.{IsLineStart}
use Rattle.grep_definitions.specs.Plans.{line_count, start, Settings, touches, is_touched}
use Rattle.grep_definitions.specs.Plans.{position_after, position_past, match_limit}
use Rattle.grep_definitions.specs.SuccessiveMatches.{counted_matches, matches_left}
use Rattle.grep_walk.specs.declared.blocks.Blocks.{Blocks}

-- whether a line that begins at a position is in a range of whole lines, if there is one
abbrev pub is_in : Option (ℕ × ℕ) → ℕ → Bool
is_in None position = false
is_in (Some block) position = nat_le block.0 position && nat_lt position block.1

-- the whole lines of a match from a line start on, by the block of what is there of the match
pub record IsPart (t : ℕ) (bytes : List ℕ) (low : ℕ) (found part : ℕ × ℕ) : Type 0 where
  pub begins : part.0 ≡ low + block_start t (drop low bytes) (found.0 - low, found.1 - low)
  pub ends : part.1 ≡ low + block_end t (drop low bytes) (found.0 - low, found.1 - low)
  pub after : low ≤ part.0
  pub before : low ≤ found.0 → part.0 ≤ found.0
  pub past : found.1 ≤ part.1
  pub within : part.1 ≤ length bytes

module _ (settings : Settings) (meaning : Meaning) (bytes : List ℕ) where
  -- whether a match that counts touches the line
  abbrev pub is_counted : ℕ → Bool
  is_counted j = is_touched settings meaning bytes (counted_matches settings meaning bytes) j

  -- a range of whole lines. It begins at `low`, or after it if `low` is neither 0 nor the end, and
  -- it has a line unless it is at the end
  pub record IsRange (low : ℕ) (unit : ℕ × ℕ) : Type 0 where
    -- its first line, and one more than its last
    pub first : ℕ
    pub begins : IsLineStart (byte_of settings.line_terminator) bytes unit.0 first
    pub last : ℕ
    pub ends : IsLineStart (byte_of settings.line_terminator) bytes unit.1 last
    pub ordered : unit.0 ≤ unit.1
    pub within : unit.1 ≤ length bytes
    pub after : low ≤ unit.0
    pub apart : 0 < low → low < length bytes → low < unit.0
    pub some : unit.0 < length bytes → unit.0 < unit.1

  -- the next longest run of lines that matches touch, if the lines before `low` were passed: such a
  -- range
  pub record IsUnit (low : ℕ) (unit : ℕ × ℕ) : Type 0 where
    pub range : IsRange low unit
    -- no line between is touched, each of its own is, and the one after it isn't
    pub miss : (j : ℕ) → j < line_count settings bytes
        → low ≤ start settings bytes j → start settings bytes j < unit.0
        → is_counted j ≡ false
    pub hit : (j : ℕ) → j < line_count settings bytes
        → unit.0 ≤ start settings bytes j → start settings bytes j < unit.1
        → is_counted j ≡ true
    pub past : (j : ℕ) → j < line_count settings bytes
        → start settings bytes j ≡ unit.1 → is_counted j ≡ false

  -- which matches were found, and which are still to be found
  pub record AreFound (position : ℕ) (left : Option ℕ) (asked : List (ℕ × ℕ)) : Type 0 where
    pub all : counted_matches settings meaning bytes
        ≡ asked ++ matches_left meaning bytes position left
    pub room : left ≡ option_map (λ limit. limit - length asked) (match_limit settings)
    pub at : position < length bytes → position_past 0 asked ≡ position

  -- the next match was found, and the search is past it
  pub record IsFound (old new : Blocks) (m : ℕ × ℕ) : Type 0 where
    pub after : old.position ≤ m.0
    pub ordered : m.0 ≤ m.1
    pub within : m.1 ≤ length bytes
    pub inside : old.position < length bytes
    pub position : new.position ≡ position_after m
    pub left : matches_left meaning bytes old.position old.left
        ≡ m ∷ matches_left meaning bytes new.position new.left
    pub found : (asked : List (ℕ × ℕ)) → AreFound old.position old.left asked
        → AreFound new.position new.left (asked ++ m ∷ [])

  -- there was no match to be found
  pub record HasNoMore (old new : Blocks) : Type 0 where
    pub left : matches_left meaning bytes old.position old.left ≡ []
    pub still : matches_left meaning bytes new.position new.left ≡ []
    pub found : (asked : List (ℕ × ℕ)) → AreFound old.position old.left asked
        → AreFound new.position new.left asked

  -- the matches that were found touch the lines of one range, of those from a position on, and no
  -- match that is still to be found touches a line before it
  pub record AreTouched (end position : ℕ) (asked : List (ℕ × ℕ)) (unit : Option (ℕ × ℕ))
      : Type 0 where
    pub same : (j : ℕ) → j < line_count settings bytes
        → end ≤ start settings bytes j
        → list_any (touches settings meaning bytes j) asked
        ≡ is_in unit (start settings bytes j)
    pub range : IfSome unit (IsRange end)
    -- they touch the line before that position too, if it isn't the first line's start
    pub before : end < length bytes → (j : ℕ) → j < line_count settings bytes
        → start settings bytes (j + 1) ≡ end
        → list_any (touches settings meaning bytes j) asked ≡ true
    pub later : IfSome unit
        (λ u. u.0 ≤ block_start (byte_of settings.line_terminator) bytes (position, position))

  -- what is known of the matches between two units
  pub record AreLeft (blocks : Blocks) : Type 0 where
    pub asked : List (ℕ × ℕ)
    pub found : AreFound blocks.position blocks.left asked
    pub touched : AreTouched blocks.end blocks.position asked blocks.next
    -- no match is left if there is no block
    pub none : IfNone blocks.next (matches_left meaning bytes blocks.position blocks.left ≡ [])
    pub line : ℕ
    pub ends : IsLineStart (byte_of settings.line_terminator) bytes blocks.end line

  -- what is known of the matches that were found, while one unit is put together
  pub record IsReached (low : ℕ) (blocks : Blocks) (unit : ℕ × ℕ) : Type 0 where
    pub asked : List (ℕ × ℕ)
    pub found : AreFound blocks.position blocks.left asked
    pub touched : AreTouched low blocks.position asked (Some unit)
    pub taken : blocks.next ≡ None
