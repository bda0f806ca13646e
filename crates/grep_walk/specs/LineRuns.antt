-- Lines of a window one after another, all of which match, or none of them. No contract of
-- grep_searcher cites these definitions.
use Rattle.std.specs.Prelude.{◌≡◌, ◌+◌, ◌-◌, ◌<◌, ◌≤◌, Bool, true, false, List, ℕ}
use Rattle.std.specs.Prelude.{drop, length, slice_range}
use Rattle.grep_definitions.specs.LineCalls.{matches_line}
use Rattle.grep_definitions.specs.Plans.{IsLawful, Settings, hits_if}
use Rattle.grep_lines.specs.Positions.{IsLine, IsLineStart}
use Rattle.grep_matcher.specs.Lines.{byte_of}
use Rattle.grep_matcher.specs.Meanings.{MatcherFacts, Meaning}
use Rattle.grep_walk.specs.LookAheads.{IsBounded, IsKnown, passes_unchosen}
use Rattle.grep_walk.specs.declared.line_run.LineRun.{LineRun}
use Rattle.grep_walk.specs.declared.look_ahead.Ahead.{Ahead}
use Rattle.grep_walk.specs.declared.walk.Walk.{Walk}

-- the lines from a position on, where the line with this index begins, all match, or none does;
-- another line starts where they end, and this is known of it
pub record AreAlike (settings : Settings) (meaning : Meaning) (window : List ℕ)
    (start index : ℕ) (matches : Bool) (run : LineRun) : Type 0 where
  pub all : (i p q : ℕ) → IsLine (byte_of settings.line_terminator) window i p q
      → start ≤ p → p < run.end
      → matches_line settings meaning (slice_range window p q) ≡ matches
  pub at : IsLineStart (byte_of settings.line_terminator) window run.end (index + run.count)
  pub known : IsKnown settings meaning window run.end run.ahead

-- such lines begin at a position, by what is known there
pub record IsRun {E : Type 0} (settings : Settings) (facts : MatcherFacts E) (window : List ℕ)
    (start : ℕ) (ahead : Ahead) (matches : Bool) (run : LineRun) : Type 0 where
  pub some : start < run.end
  pub within : run.end ≤ length window
  pub counted : run.count ≤ run.end - start
  pub bounded : IsBounded window run.ahead
  pub alike : IsLawful facts settings
      → (i : ℕ) → IsLineStart (byte_of settings.line_terminator) window start i
      → IsKnown settings facts.meaning window start ahead
      → AreAlike settings facts.meaning window start i matches run

-- the matcher failed at the lines after them, about which nothing else was asked
pub record HasFailed {E : Type 0} (facts : MatcherFacts E) (window : List ℕ) (run : LineRun)
    (error : E) : Type 0 where
  pub inside : run.end < length window
  pub unknown : run.ahead.asked_end ≤ run.end
  pub fails : facts.fails (drop run.end window) error

-- a walk passes lines that match, since none of them is chosen under inversion
pub record ArePassed {E : Type 0} (settings : Settings) (facts : MatcherFacts E) (window : List ℕ)
    (start : ℕ) (ahead : Ahead) (w : Walk) (lines : LineRun) : Type 0 where
  pub run : IsRun settings facts window start ahead true lines
  pub inverted : hits_if settings true ≡ false
  pub unchosen : passes_unchosen settings w ≡ true

-- the walk after so many bytes of lines that it passed, which are so many
abbrev pub after_passed : Walk → ℕ → ℕ → Walk
after_passed w bytes count = record w { offset = w.offset + bytes; line = w.line + count }
