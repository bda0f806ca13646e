-- Where the calls of a walk begin: at the first of them, or after some of them, as in a search that
-- goes on after `binary_data`. No contract of grep_searcher cites these definitions.
use Rattle.std.specs.Prelude.{◌≡◌, List, [], ◌++◌}
use Rattle.grep_definitions.specs.Plans.{AreMade, Finish, Outcome, Plan, Planned, Steps, Settings}
use Rattle.grep_definitions.specs.SinkRuns.{IsEnding}

-- a state of a sink, and the calls that were made before it
pub record Origin (S : Type 0) : Type 0 where
  pub before : List Planned
  pub state : S

-- a sink that had no call
abbrev pub fresh : {S : Type 0} → S → Origin S
fresh state = record { before = []; state = state }

-- these calls were made: the first of them before an origin, and the others from its state on
pub record AreMadeFrom {S E : Type 0} (step : Steps S E) (settings : Settings) (first : Origin S)
    (calls : List Planned) (outcome : Outcome E) (new : S) : Type 0 where
  pub later : List Planned
  pub all : calls ≡ first.before ++ later
  pub made : AreMade step settings first.state later outcome new

-- those along a plan were, and `finish` is still to be called
pub record IsMadeToFrom {S E : Type 0} (step : Steps S E) (settings : Settings) (first : Origin S)
    (plan : Plan) (outcome : Outcome E) (finish : Finish) (new : S) : Type 0 where
  pub made : AreMadeFrom step settings first plan.calls outcome new
  pub ending : IsEnding outcome plan.finish finish
