-- What a walk knows of the lines from its line on, and which of them it may skip. No contract of
-- grep_searcher cites these definitions.
use Rattle.std.specs.Prelude.{◌≡◌, ℕ, ◌<◌, ◌≤◌, Bool, true, false, not, ◌&&◌, ◌||◌, ◌==◌}
use Rattle.std.specs.Prelude.{if◌then◌else◌, drop, nat_lt, List, length, Option, Some, None}
use Rattle.std.specs.Prelude.{slice_range}
use Rattle.grep_lines.specs.Positions.{IsLine, IsLineStart}
use Rattle.grep_matcher.specs.Meanings.{MatcherFacts, Meaning}
use Rattle.grep_matcher.specs.Lines.{byte_of}
use Rattle.grep_definitions.specs.Plans.{has_room, hits_if, AsksAhead, is_declared, Settings}
use Rattle.grep_definitions.specs.Plans.{stops_next}
use Rattle.grep_definitions.specs.LineCalls.{matches_line}
use Rattle.grep_walk.specs.declared.look_ahead.Ahead.{Ahead}
use Rattle.grep_walk.specs.declared.look_ahead.Questions.{Questions}
use Rattle.grep_walk.specs.declared.look_ahead.Questions.TheVariants.{ManyLines, OneLine}
use Rattle.grep_walk.specs.declared.look_ahead.Reporting.{Reporting}
use Rattle.grep_walk.specs.declared.look_ahead.Reporting.TheVariants.{AnyLines, MatchesAlone}
use Rattle.grep_walk.specs.declared.walk.Walk.{Walk}

-- whether the line that begins at a position matches, if that is known
abbrev pub known_at : Ahead → ℕ → Option Bool
known_at ahead start =
    if nat_lt start ahead.candidate then Some false
    else (if nat_lt start ahead.match_end then Some true else None)

-- its positions are in the window
pub record IsBounded (window : List ℕ) (ahead : Ahead) : Type 0 where
  pub ordered : ahead.candidate ≤ ahead.match_end
  pub within : ahead.match_end ≤ length window
  -- the line that surely matches was asked about
  pub asked : ahead.match_end ≤ ahead.asked_end
  pub sure : ahead.candidate < ahead.match_end → ahead.asked_end ≡ ahead.match_end

-- if it has a line that matches, that is the line which begins there
abbrev pub IsExact : ℕ → List ℕ → Ahead → Type 0
IsExact t window ahead =
    ahead.candidate < ahead.match_end → (i : ℕ) → IsLineStart t window ahead.candidate i
    → IsLine t window i ahead.candidate ahead.match_end

-- what is known of the lines of a window from `start` on is so
pub record IsKnown (settings : Settings) (meaning : Meaning) (window : List ℕ) (start : ℕ)
    (ahead : Ahead)
    : Type 0 where
  pub index : ℕ
  pub at : IsLineStart (byte_of settings.line_terminator) window ahead.candidate index
  pub exact : IsExact (byte_of settings.line_terminator) window ahead
  pub miss : (i p q : ℕ) → IsLine (byte_of settings.line_terminator) window i p q
      → start ≤ p → p < ahead.candidate
      → matches_line settings meaning (slice_range window p q) ≡ false
  pub hit : (i p q : ℕ) → IsLine (byte_of settings.line_terminator) window i p q
      → ahead.candidate ≤ p → p < ahead.match_end
      → matches_line settings meaning (slice_range window p q) ≡ true

-- whether the matcher says that no match contains the line terminator
abbrev pub excludes_terminator : Settings → Meaning → Bool
excludes_terminator settings meaning =
    is_declared meaning.terminator settings.line_terminator
    || meaning.absent (byte_of settings.line_terminator)

-- a search by line may ask about this: about many lines at once just if the settings and the
-- matcher allow it
abbrev pub AreQuestions : Settings → Meaning → Questions → Type 0
AreQuestions settings meaning OneLine = AsksAhead settings meaning → ⊥
AreQuestions settings meaning ManyLines = AsksAhead settings meaning

-- many lines may be asked about at once after lines that are chosen
pub record MayAskOn (settings : Settings) (meaning : Meaning) : Type 0 where
  pub allowed : AsksAhead settings meaning
  pub straight : settings.invert_match ≡ false
  pub unstopped : settings.stop_on_nonmatch ≡ false

-- the settings and the matcher allow these questions about the lines after a chosen one
abbrev pub AreAllowed : Settings → Meaning → Questions → Type 0
AreAllowed settings meaning OneLine = Unit {0}
AreAllowed settings meaning ManyLines = MayAskOn settings meaning

-- a walk may ask about many lines at once
pub record MayAskAhead (settings : Settings) (meaning : Meaning) (w : Walk) : Type 0 where
  pub allowed : AsksAhead settings meaning
  pub room : has_room settings w.match_count ≡ true
  pub unstopped : stops_next settings (nat_lt 0 w.match_count) ≡ false

-- the matcher failed at the lines from where a walk is on, about which nothing else was asked
pub record HasFailedAt {E : Type 0} (settings : Settings) (facts : MatcherFacts E)
    (window : List ℕ) (start : ℕ) (w : Walk) (ahead : Ahead) (error : E) : Type 0 where
  pub may_ask : MayAskAhead settings facts.meaning w
  pub inside : start < length window
  pub unknown : ahead.asked_end ≤ start
  pub fails : facts.fails (drop start window) error

-- a search reports the lines that match, and no others
pub record ReportsMatchesAlone (settings : Settings) : Type 0 where
  pub straight : settings.invert_match ≡ false
  pub selective : settings.passthru ≡ false
  pub unstopped : settings.stop_on_nonmatch ≡ false
  pub unlimited : settings.max_matches ≡ None
  pub none_before : settings.before_context ≡ 0
  pub none_after : settings.after_context ≡ 0

-- these are the lines that it reports
abbrev pub IsReporting : Settings → Reporting → Type 0
IsReporting settings MatchesAlone = ReportsMatchesAlone settings
IsReporting settings AnyLines = Unit {0}

-- whether a line that isn't chosen is neither reported nor ends the search
abbrev pub passes_unchosen : Settings → Walk → Bool
passes_unchosen settings w =
    not settings.passthru && w.after_context_left == 0
    && not (stops_next settings (nat_lt 0 w.match_count))

-- whether a walk may skip lines that don't match: none is chosen, and it passes them
abbrev pub can_skip : Settings → Walk → Bool
can_skip settings w = not (hits_if settings false) && passes_unchosen settings w

-- whether it skips the lines from `start` up to another position
abbrev pub skips : Settings → Walk → ℕ → ℕ → Bool
skips settings w start end = nat_lt start end && can_skip settings w
