-- The end of a search.
use Rattle.std.proofs.Common.{Bool, ℕ, List, subst, None, Result}
use Rattle.grep_definitions.specs.Plans.{Settings, finishes, Steps, Outcome, all_true, stopped}
use Rattle.grep_definitions.specs.Plans.{failed, IsFinished, IsRun, Finish, finish_result, counted}
use Rattle.grep_definitions.specs.Plans.{Plan, plan_in}
use Rattle.grep_definitions.specs.SinkRuns.{IsEnding, IsMadeTo}
use Rattle.grep_report.specs.ErrorMakers.{ErrorMakers}
use Rattle.grep_matcher.specs.Meanings.{MatcherFacts}
use Rattle.grep_definitions.specs.Searches.{nowhere}
use Rattle.grep_definitions.specs.SliceSearches.{IsContentsSearch}
use Rattle.grep_definitions.proofs.ContentsSearchLemmas.{plain-ran}

module _ {S E : Type 0} (step : Steps S E) (k : Settings) (old : S) (plan : Plan) (finish : Finish)
  where
    -- `finish` follows calls that didn't fail
    pub finished-after : (outcome : Outcome E) (mid : S) (result : Result (Unit {0}) E) (new : S)
        → IsEnding outcome plan.finish finish → step mid k (finishes finish.count finish.binary)
        (finish_result result) new → IsFinished step k outcome mid plan.finish result new
    finished-after all_true mid result new is made =
        subst (λ (f : Finish). step mid k (finishes f.count f.binary) (finish_result result) new) is
        made
    finished-after (stopped if_false) mid result new is made =
        subst (λ (f : Finish). step mid k (finishes f.count f.binary) (finish_result result) new) is
        made
    finished-after (failed e) mid result new never made = absurd never

    -- and ends the run
    unfoldable pub run-finish : (outcome : Outcome E) (mid : S) (result : Result (Unit {0}) E)
        (new : S) → IsMadeTo step k old plan outcome finish mid
        → step mid k (finishes finish.count finish.binary) (finish_result result) new
        → IsRun step k old plan result new
    run-finish outcome mid result new to made = record {
      outcome = outcome;
      mid = mid;
      made = to.made;
      finished = finished-after outcome mid result new to.ending made;
    }

-- and so the search, whatever `finish` returned
pub searched-finish : {S E F : Type 0} (step : Steps S E) (errors : ErrorMakers F E)
    (matcher : MatcherFacts F)
    (k : Settings) (bytes : List ℕ) (old : S) {across : Bool} (count : ℕ) (outcome : Outcome E)
    (mid : S) (result : Result (Unit {0}) E) (new : S)
    → IsMadeTo step k old (plan_in k matcher.meaning bytes across) outcome (counted count) mid
    → step mid k (finishes count None) (finish_result result) new
    → IsContentsSearch step errors matcher k nowhere across bytes old result new
searched-finish step errors matcher k bytes old {across} count outcome mid result new to made =
    plain-ran step errors matcher k bytes old
    (run-finish step k old (plan_in k matcher.meaning bytes across) (counted count) outcome mid
    result new to made)
