-- The walk over the lines of some bytes: what it reports of the line that it is at, how that line
-- moves it on, and what it comes to. No contract of grep_searcher cites these definitions.
use Rattle.std.specs.Prelude.{◌≡◌, ℕ, ◌+◌, ◌-◌, ◌<◌, ◌≤◌, Bool, true, false, not, ◌&&◌, ◌||◌, ◌==◌}
use Rattle.std.specs.Prelude.{if◌then◌else◌, nat_lt, List, [], ◌++◌, length, All}
use Rattle.grep_matcher.specs.Lines.{byte_of, lines}
use Rattle.grep_matcher.specs.Meanings.{Meaning}
use Rattle.grep_lines.specs.Positions.{IsLineStart}
use Rattle.grep_report.specs.SinkReports.{Surroundings}
use Rattle.grep_report.specs.declared.sink_context.SinkContextKind.TheVariants.{Other}
use Rattle.grep_definitions.specs.Plans.{calls_before, selected_lines, Settings, Planned, all_true}
use Rattle.grep_definitions.specs.Plans.{Steps, has_room, hits_if, stops_next}
use Rattle.grep_definitions.specs.LineWalks.{IsNear, IsOpen}
use Rattle.grep_definitions.specs.LineCalls.{matches_line, pending_calls, selected_calls}
use Rattle.grep_definitions.specs.LineCalls.{after_calls, context_calls}
use Rattle.grep_definitions.specs.SearchLaws.{number_of}
use Rattle.grep_walk.specs.declared.walk.Verdict.{Verdict}
use Rattle.grep_walk.specs.declared.walk.Verdict.TheVariants.{Chosen, Trailing, Neither}
use Rattle.grep_walk.specs.declared.walk.Walk.{Walk}
use Rattle.grep_walk.specs.Origins.{AreMadeFrom, Origin}

-- whether a line is chosen by a verdict, and whether it is trailing
abbrev pub chooses : Verdict → Bool
chooses Chosen = true
chooses Trailing = false
chooses Neither = false

abbrev pub trails : Verdict → Bool
trails Chosen = false
trails Trailing = true
trails Neither = false

-- whether the line that a walk is at may be a match: the limit has room, or lines are left in the
-- context after a match
abbrev pub can_hit : Settings → Walk → Bool
can_hit settings w = has_room settings w.match_count || nat_lt 0 w.after_context_left

-- whether the line that a walk is at is chosen, and in the context after a match whether it is
-- trailing
pub record IsDecided (settings : Settings) (meaning : Meaning) (w : Walk) (line : List ℕ)
    (chosen trailing : Bool) : Type 0 where
  pub chosen_is : chosen ≡ (has_room settings w.match_count
      && hits_if settings (matches_line settings meaning line))
  pub trailing_is : 0 < w.after_context_left
      → trailing ≡ (not (has_room settings w.match_count)
      && hits_if settings (matches_line settings meaning line))

-- where the line of these bytes ends in the whole input
abbrev pub line_end : Walk → List ℕ → ℕ
line_end w line = w.offset + length line

-- the calls of the line that a walk is at, with what is around it if it is a match
abbrev pub line_calls : Settings → List ℕ → Walk → List ℕ → Surroundings → Bool → Bool
    → List Planned
line_calls settings window w line around chosen trailing =
    if chosen
    then pending_calls settings window w.next_unreported w.line (line_end w line)
    w.next_unreported (w.line - w.next_unreported)
    ++ selected_calls settings w.next_unreported w.line w.offset (line_end w line) line around
    else (if nat_lt 0 w.after_context_left
    then after_calls settings trailing w.next_unreported w.line w.offset (line_end w line) line
    around
    else (if settings.passthru
    then context_calls Other (number_of settings w.line) w.offset (line_end w line) line
    else []))

-- whether that line is reported
abbrev pub reports_line : Settings → Walk → Bool → Bool
reports_line settings w chosen = chosen || nat_lt 0 w.after_context_left || settings.passthru

-- the walk after that line
abbrev pub after_line : Settings → Walk → List ℕ → Bool → Walk
after_line settings w line chosen = record {
  offset = line_end w line;
  line = w.line + 1;
  next_unreported = if reports_line settings w chosen then w.line + 1 else w.next_unreported;
  after_context_left = if chosen then settings.after_context else w.after_context_left - 1;
  match_count = if chosen then w.match_count + 1 else w.match_count;
}

-- the walk after lines that were passed unreported
abbrev pub skip_lines : Settings → Walk → List ℕ → Walk
skip_lines settings w passed = record w {
  offset = w.offset + length passed;
  line = w.line + length (lines (byte_of settings.line_terminator) passed);
}

-- whether a search counts its lines: if they are numbered, or reported around matches
abbrev pub counts_lines : Settings → Bool
counts_lines settings =
    settings.line_number || nat_lt 0 settings.after_context || nat_lt 0 settings.before_context

-- the walk after lines that were skipped, which are counted only if lines are
abbrev pub skip_unmatched : Settings → Walk → List ℕ → Walk
skip_unmatched settings w passed = record w {
  offset = w.offset + length passed;
  line = if counts_lines settings
      then w.line + length (lines (byte_of settings.line_terminator) passed) else w.line;
}

-- a walk with its lines counted anew
abbrev pub with_counts : Walk → ℕ → ℕ → Walk
with_counts w line next_unreported = record w { line = line; next_unreported = next_unreported }

-- these are a walk's counts of lines, if it counts them
abbrev pub AreCounts : Settings → Walk → ℕ → ℕ → Type 0
AreCounts settings w line next_unreported =
    counts_lines settings ≡ true → (line ≡ w.line) × (next_unreported ≡ w.next_unreported)

-- whether no later line may be reported, by whether the last line was chosen
abbrev pub is_over : Settings → Walk → Bool → Bool
is_over settings w chosen =
    (stops_next settings (nat_lt 0 w.match_count) && not chosen)
    || (not settings.passthru && not (has_room settings w.match_count)
    && w.after_context_left == 0)

-- the counts of a walk are in order
pub record IsOrdered (w : Walk) : Type 0 where
  pub few : w.line ≤ w.offset
  pub low : w.next_unreported ≤ w.line
  pub chosen : w.match_count ≤ w.line

module _ (settings : Settings) (meaning : Meaning) (bytes : List ℕ) where
  -- where a walk over these bytes is, whatever the matcher returns
  pub record IsPlaced (w : Walk) : Type 0 where
    pub at : IsLineStart (byte_of settings.line_terminator) bytes w.offset w.line
    pub inside : w.offset ≤ length bytes
    pub low : w.next_unreported ≤ w.line
    pub few : w.match_count ≤ w.line

  -- a walk that goes on: which lines were reported, what is known of limit and stop, and that the
  -- counts of the calls so far are at most its offset
  pub record IsWalk (w : Walk) : Type 0 where
    pub placed : IsPlaced w
    pub near : IsNear settings bytes (selected_lines settings meaning bytes) w.next_unreported
        w.line w.after_context_left
    pub opened : IsOpen settings meaning bytes w.line w.after_context_left w.match_count
    pub ended : All (λ call. call.if_false.count ≤ w.offset)
        (calls_before settings bytes (selected_lines settings meaning bytes) w.next_unreported)

  -- the calls that are defined up to a walk were made from an origin on, and all returned true
  pub record HasReported {S E : Type 0} (step : Steps S E) (first : Origin S) (w : Walk)
      (now : S) : Type 0 where
    pub walk : IsWalk w
    pub reported : AreMadeFrom step settings first
        (calls_before settings bytes (selected_lines settings meaning bytes) w.next_unreported)
        all_true now
