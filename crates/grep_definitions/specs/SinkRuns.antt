-- What came of calls, by what is returned of them.
use Rattle.std.specs.Prelude.{◌≡◌, ℕ, Bool, true, false, List, Option, Result, Ok, Err}
use Rattle.grep_definitions.specs.Plans.{Planned, Plan, Outcome, all_true, stopped, failed, counted}
use Rattle.grep_definitions.specs.Plans.{Settings, Steps, Finish, AreMade}
use Rattle.grep_definitions.specs.Searches.{BinaryPoint, with_offset}

-- the plan of some calls after which `finish` has this byte count
abbrev pub plan_of : List Planned → ℕ → Plan
plan_of calls count = record { calls = calls; finish = counted count }

-- a call after which `finish` has this offset, if it returns false
abbrev pub with_binary : Option ℕ → Planned → Planned
with_binary binary call = record call { if_false = record call.if_false { binary = binary } }

-- a call after `binary_data`
abbrev pub after_binary : BinaryPoint → Planned → Planned
after_binary point later = record later { if_false = with_offset point.offset later.if_false }

-- what came of calls whose byte count is this, by what is returned of them: whether the search goes
-- on, or the error
abbrev pub outcome_of : {E : Type 0} → ℕ → Result Bool E → Outcome E
outcome_of count (Ok true) = all_true
outcome_of count (Ok false) = stopped (counted count)
outcome_of count (Err e) = failed e

-- what `finish` has after calls that didn't fail
abbrev pub IsEnding : {E : Type 0} → Outcome E → Finish → Finish → Type 0
IsEnding all_true whole finish = finish ≡ whole
IsEnding (stopped if_false) whole finish = finish ≡ if_false
IsEnding (failed e) whole finish = ⊥

-- the calls along a plan were made, and `finish` is still to be called
pub record IsMadeTo {S E : Type 0} (step : Steps S E) (settings : Settings) (old : S) (plan : Plan)
    (outcome : Outcome E) (finish : Finish) (last : S) : Type 0 where
  pub made : AreMade step settings old plan.calls outcome last
  pub ending : IsEnding outcome plan.finish finish
