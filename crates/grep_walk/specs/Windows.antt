-- A walk over the lines of an input of which a window is shown. No contract of grep_searcher cites
-- these definitions.
use Rattle.std.specs.Prelude.{◌≡◌, ℕ, ◌+◌, ◌-◌, ◌<◌, ◌≤◌, min, List, ◌++◌, length, take, drop}
use Rattle.grep_matcher.specs.Lines.{byte_of, lines}
use Rattle.grep_matcher.specs.Meanings.{Meaning}
use Rattle.grep_lines.specs.Positions.{IsLine, IsLineStart}
use Rattle.grep_definitions.specs.Plans.{Settings, Steps}
use Rattle.grep_definitions.specs.Searches.{IsClosed}
use Rattle.grep_walk.specs.declared.walk.Walk.{Walk}
use Rattle.grep_walk.specs.Walks.{AreCounts, HasReported, with_counts}
use Rattle.grep_walk.specs.Origins.{Origin}

-- a window shows bytes of the input, after those that are gone, and its lines are lines of the
-- input
pub record IsWindow (t : ℕ) (gone window input : List ℕ) : Type 0 where
  pub after : List ℕ
  pub whole : input ≡ gone ++ (window ++ after)
  pub line : (i start end : ℕ) → IsLine t window i start end
      → IsLine t input (length (lines t gone) + i) (length gone + start) (length gone + end)

-- line i of the input begins at a position of the window
pub record IsLineIn (settings : Settings) (gone window : List ℕ) (position i : ℕ) : Type 0 where
  pub low : length (lines (byte_of settings.line_terminator) gone) ≤ i
  pub begins : IsLineStart (byte_of settings.line_terminator) window position
      (i - length (lines (byte_of settings.line_terminator) gone))

-- a walk is at `start` of a window, and of the lines before that which weren't reported the window
-- has as many as are reported with a match
pub record IsInWindow (settings : Settings) (gone window input : List ℕ) (start : ℕ)
    (w : Walk) : Type 0 where
  pub shown : IsWindow (byte_of settings.line_terminator) gone window input
  pub at : w.offset ≡ length gone + start
  pub line : IsLineIn settings gone window start w.line
  pub kept : length (lines (byte_of settings.line_terminator) gone)
      + min settings.before_context (w.line - w.next_unreported) ≤ w.line

-- A walk that is at the end of a window is in the next one too, which begins with what is kept of
-- that window from an index on: whatever is shown with it, whatever comes after that, and also if
-- the walk's lines are counted anew.
abbrev pub IsInNextWindow : Settings → List ℕ → ℕ → Walk → Type 0
IsInNextWindow settings window kept w =
    (gone more after : List ℕ)
    → IsClosed (byte_of settings.line_terminator) gone
    → IsClosed (byte_of settings.line_terminator) window
    → (0 < length after
    → IsClosed (byte_of settings.line_terminator) (drop kept window ++ more))
    → (line next_unreported : ℕ) → AreCounts settings w line next_unreported
    → IsInWindow settings gone window (gone ++ (window ++ (more ++ after)))
    (length window) (with_counts w line next_unreported)
    → IsInWindow settings (gone ++ take kept window)
    (drop kept window ++ more) (gone ++ (window ++ (more ++ after)))
    (length window - kept) (with_counts w line next_unreported)

-- a walk that is in a window has made the calls of the lines before it, from an origin on
pub record HasWalked {S E : Type 0} (step : Steps S E) (settings : Settings) (meaning : Meaning)
    (gone window input : List ℕ) (first : Origin S) (start : ℕ) (w : Walk) (now : S) : Type 0 where
  pub inside : IsInWindow settings gone window input start w
  pub reported : HasReported settings meaning input step first w now

-- a walk that may have skipped lines uncounted has made these calls: it has with its lines counted
pub record HasSearched {S E : Type 0} (step : Steps S E) (settings : Settings) (meaning : Meaning)
    (gone window input : List ℕ) (first : Origin S) (start : ℕ) (w : Walk) (now : S) : Type 0 where
  pub line : ℕ
  pub next_unreported : ℕ
  pub counts : AreCounts settings w line next_unreported
  pub walked : HasWalked step settings meaning gone window input first start
      (with_counts w line next_unreported) now

-- it has come to the end of the window, and passed all its lines
pub record HasPassed {S E : Type 0} (step : Steps S E) (settings : Settings) (meaning : Meaning)
    (gone window input : List ℕ) (first : Origin S) (w : Walk) (now : S) : Type 0 where
  pub searched : HasSearched step settings meaning gone window input first (length window) w now
  pub all : searched.line ≡ length (lines (byte_of settings.line_terminator) gone)
      + length (lines (byte_of settings.line_terminator) window)
