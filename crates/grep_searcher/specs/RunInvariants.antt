-- What holds of the calls so far and of the state after them, before the first call and after each:
-- an invariant of a run. No clause can range over all of these, so a lemma says what follows, for
-- each sink and each handler.
use Rattle.std.specs.Prelude.{◌≡◌, ℕ, Bool, true, List, [], ◌∷◌, ◌++◌, Ok}
use Rattle.grep_matcher.specs.Meanings.{Meaning}
use Rattle.grep_definitions.specs.Plans.{Call, IsRun, Plan, Settings, Steps}
use Rattle.grep_searcher.specs.AppendedParts.{run_calls}
use Rattle.grep_searcher.specs.HitLines.{hit_matches, kept_hits}
use Rattle.grep_searcher.specs.MatchHandlers.{KeptReport, kept_of}
use Rattle.grep_searcher.specs.SinkFolds.{fold_while}

module _ {S E : Type 0} (step : Steps S E) (Holds : List Call → S → Type 0) where
  -- each call that succeeds goes on, and it holds after the call if it did before
  abbrev pub StepsKeep : Type 0
  StepsKeep =
      (before : List Call) (old : S) (settings : Settings) (call : Call) (b : Bool) (new : S)
      → Holds before old → step old settings call (Ok b) new
      → (b ≡ true) × Holds (before ++ call ∷ []) new

  -- then it holds at the end of a run that ended in `Ok`, if it did before the run
  abbrev pub RunsKeep : Type 0
  RunsKeep =
      StepsKeep → (settings : Settings) (old : S) (plan : Plan) (new : S) → Holds [] old
      → IsRun step settings old plan (Ok tt) new → Holds (run_calls plan) new

module _ {H : Type 0} (goes : H → Call → Bool) (next : H → Call → H) where
  module _ (Holds : List Call → H → Type 0) where
    -- each match lets the search go on, and it holds after the match if it did before
    abbrev pub MatchesKeep : Type 0
    MatchesKeep =
        (before : List Call) (old : H) (call : Call) → Holds before old
        → (goes old call ≡ true) × Holds (before ++ call ∷ []) (next old call)

    -- then it holds after all matches that are handled, if it did before them
    abbrev pub CallsKeep : Type 0
    CallsKeep =
        MatchesKeep → (old : H) (calls : List Call) → Holds [] old
        → Holds calls (fold_while goes next old calls)

  -- or it is of what is kept of each match so far: its number, its offset and its bytes
  module _ (Holds : List KeptReport → H → Type 0) where
    abbrev pub LinesKeep : Type 0
    LinesKeep =
        (before : List KeptReport) (old : H) (call : Call) → Holds before old
        → (goes old call ≡ true) × Holds (before ++ kept_of call ∷ []) (next old call)

    -- then it holds of the lines that hit and the state after them
    abbrev pub HitsKeep : Type 0
    HitsKeep =
        LinesKeep → (settings : Settings) (meaning : Meaning) (bytes : List ℕ) (old : H)
        → Holds [] old
        → Holds (kept_hits settings meaning bytes)
        (fold_while goes next old (hit_matches settings meaning bytes))
