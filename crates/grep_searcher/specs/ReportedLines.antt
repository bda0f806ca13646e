-- How lines are reported: what is around a match, and lines that are chosen one after another. No
-- contract of grep_searcher cites these definitions.
use Rattle.std.specs.Prelude.{◌≡◌, ℕ, ◌-◌, Bool, true, List, IfSome, Option, None, Some, Result}
use Rattle.std.specs.Prelude.{Ok, Err}
use Rattle.grep_definitions.specs.LineCalls.{pending_calls}
use Rattle.grep_definitions.specs.Plans.{AreMade, Outcome, Settings, Steps, all_true, counted}
use Rattle.grep_definitions.specs.Plans.{failed, stopped}
use Rattle.grep_definitions.specs.SinkRuns.{outcome_of}
use Rattle.grep_matcher.specs.Meanings.{MatcherFacts}
use Rattle.grep_report.specs.SinkReports.{Surroundings, no_surroundings, surroundings}
use Rattle.grep_walk.specs.ChosenLines.{AreChosen, chosen_calls}
use Rattle.grep_walk.specs.LineRuns.{HasFailed}
use Rattle.grep_walk.specs.LookAheads.{MayAskOn}
use Rattle.grep_walk.specs.Walks.{counts_lines, line_calls, line_end}
use Rattle.grep_walk.specs.Windows.{IsInWindow, IsLineIn}
use Rattle.grep_walk.specs.declared.line_run.LineRun.{LineRun}
use Rattle.grep_walk.specs.declared.look_ahead.Ahead.{Ahead}
use Rattle.grep_walk.specs.declared.walk.Walk.{Walk}
use Rattle.grep_searcher.specs.declared.search.chosen_lines.Offered.{Offered}
use Rattle.grep_searcher.specs.declared.search.chosen_lines.Offered.TheVariants.{Declined, Nothing}
use Rattle.grep_searcher.specs.declared.search.chosen_lines.Offered.TheVariants.{Taken}
use Rattle.grep_searcher.specs.declared.search.sink_lines.Reach.{Reach}
use Rattle.grep_searcher.specs.declared.search.sink_lines.Reach.TheVariants.{AcrossLines, ByLine}

-- the bytes around the lines from one position up to another of a window, as their match has them:
-- by line none count
abbrev pub around_in : Reach → List ℕ → ℕ → ℕ → Surroundings
around_in ByLine window start end = no_surroundings
around_in AcrossLines window start end = surroundings window start end

-- what came of calls, by where one of them ended the search, if one did, or the error
abbrev pub outcome_at : {E : Type 0} → Result (Option ℕ) E → Outcome E
outcome_at (Ok None) = all_true
outcome_at (Ok (Some offset)) = stopped (counted offset)
outcome_at (Err e) = failed e

module _ {S E : Type 0} (step : Steps S E) (settings : Settings) (window : List ℕ) (start : ℕ)
    (w : Walk) where
  -- the calls of the line that a walk is at, at `start` of a window, were made. If the search
  -- counts its lines, the window has those that are reported before it
  abbrev pub AreLineCallsMade : List ℕ → Surroundings → Bool → Bool → S → Result Bool E → S → Type 0
  AreLineCallsMade line around chosen trailing old result new =
      (gone input : List ℕ)
      → (counts_lines settings ≡ true → IsInWindow settings gone window input start w)
      → AreMade step settings old (line_calls settings input w line around chosen trailing)
      (outcome_of (line_end w line) result) new

  -- the calls of all lines that are reported before that line were made
  abbrev pub ArePendingCallsMade : S → Result Bool E → S → Type 0
  ArePendingCallsMade old result new =
      (gone input : List ℕ)
      → (counts_lines settings ≡ true → IsInWindow settings gone window input start w)
      → (end : ℕ) → AreMade step settings old
      (pending_calls settings input w.next_unreported w.line end w.next_unreported
      (w.line - w.next_unreported)) (outcome_of end result) new

  -- those of the lines from one with this index on, which begins at a position of the window
  abbrev pub ArePendingCallsMadeFrom : ℕ → ℕ → S → Result Bool E → S → Type 0
  ArePendingCallsMadeFrom position index old result new =
      (gone input : List ℕ)
      → IsInWindow settings gone window input start w
      → IsLineIn settings gone window position index
      → (end : ℕ) → AreMade step settings old
      (pending_calls settings input w.next_unreported w.line end index (w.line - index))
      (outcome_of end result) new

module _ {F : Type 0} (settings : Settings) (facts : MatcherFacts F) (window : List ℕ) (start : ℕ)
    (ahead : Ahead) (w : Walk) (failure : Option F) where
  -- such lines, and the matcher's error for those after them, if it failed
  pub record AreOffered (lines : LineRun) : Type 0 where
    pub chosen : AreChosen settings facts window start ahead w lines
    pub failed : IfSome failure
        (λ error. MayAskOn settings facts.meaning × HasFailed facts window lines error)

  -- what a sink was offered, and what it took
  abbrev pub IsOffered : {S E : Type 0} → Steps S E → S → Offered → S → Type 0
  IsOffered step old Nothing new = (failure ≡ None) × (new ≡ old)
  IsOffered step old (Taken lines) new = AreOffered lines
      × AreMade step settings old (chosen_calls settings window start lines.end w) all_true new
  IsOffered step old (Declined lines) new = AreOffered lines × (new ≡ old)
