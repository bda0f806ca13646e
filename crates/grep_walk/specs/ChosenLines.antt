-- A walk over lines one after another that are chosen, where none of them makes another call than
-- that of its match. No contract of grep_searcher cites these definitions.
use Rattle.std.specs.Prelude.{◌≡◌, ◌+◌, ◌≤◌, ◌&&◌, ◌||◌, ◌==◌, Bool, true, List, ℕ}
use Rattle.std.specs.Prelude.{is_none, slice_range}
use Rattle.grep_definitions.specs.MatchedLines.{calls_of_lines}
use Rattle.grep_definitions.specs.Plans.{Planned, Settings, hits_if}
use Rattle.grep_definitions.specs.SearchLaws.{number_of}
use Rattle.grep_matcher.specs.Lines.{byte_of, lines}
use Rattle.grep_matcher.specs.Meanings.{MatcherFacts}
use Rattle.grep_walk.specs.LineRuns.{IsRun}
use Rattle.grep_walk.specs.declared.line_run.LineRun.{LineRun}
use Rattle.grep_walk.specs.declared.look_ahead.Ahead.{Ahead}
use Rattle.grep_walk.specs.declared.walk.Walk.{Walk}

-- whether each chosen line makes no call from here on but its match's: nothing is to be reported
-- before it
abbrev pub chooses_alone : Settings → Walk → Bool
chooses_alone settings w =
    is_none settings.max_matches
    && (w.next_unreported == w.line
    || (settings.before_context == 0 && settings.after_context == 0))

-- lines of a window are chosen from a position on, by what is known there, and each makes no call
-- but its match's. They have 16 KiB at most
pub record AreChosen {E : Type 0} (settings : Settings) (facts : MatcherFacts E) (window : List ℕ)
    (start : ℕ) (ahead : Ahead) (w : Walk) (chosen : LineRun) : Type 0 where
  pub matches : Bool
  pub hits : hits_if settings matches ≡ true
  pub run : IsRun settings facts window start ahead matches chosen
  pub few : chosen.end ≤ start + 16384
  pub alone : chooses_alone settings w ≡ true

-- the walk after so many bytes of such lines, which are so many
abbrev pub after_chosen : Settings → Walk → ℕ → ℕ → Walk
after_chosen settings w bytes count = record w {
  offset = w.offset + bytes;
  line = w.line + count;
  next_unreported = w.line + count;
  after_context_left = settings.after_context;
  match_count = w.match_count + count;
}

-- the calls that report them
abbrev pub chosen_calls : Settings → List ℕ → ℕ → ℕ → Walk → List Planned
chosen_calls settings window start end w =
    calls_of_lines (number_of settings w.line) 0 w.offset
    (lines (byte_of settings.line_terminator) (slice_range window start end))
