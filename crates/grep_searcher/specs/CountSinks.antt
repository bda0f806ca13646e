-- What a sink that counts the matches makes of a call, and of a search.
use Rattle.std.specs.Prelude.{◌≡◌, ℕ, ◌+◌, ◌-◌, ◌^◌, ◌<◌, true, min, List, length, Ok}
use Rattle.grep_matcher.specs.Meanings.{Meaning}
use Rattle.grep_definitions.specs.Plans.{search_plan, Call, Plan, Steps, IsRun, Settings}
use Rattle.grep_definitions.specs.SearchLaws.{match_calls}
use Rattle.grep_searcher.specs.MatchHandlers.{IsHandlerStep}

-- one match more, up to the largest number
abbrev pub count_after : ℕ → Call → ℕ
count_after count call = min (count + 1) (2 ^ 64 - 1)

-- only a match changes the count, and no call fails
abbrev pub IsCountStep : {E : Type 0} → Steps ℕ E
IsCountStep = IsHandlerStep (λ _ _. true) count_after (λ _ _ _ _. ⊥)

-- a run that ended in `Ok` adds how many matches are reported, up to the largest number
abbrev pub RunsCount : Type 0 → Type 0
RunsCount E =
    (settings : Settings) (old : ℕ) (plan : Plan) (new : ℕ)
    → old < 2 ^ 64 → IsRun {E = E} IsCountStep settings old plan (Ok tt) new
    → new ≡ min (old + length (match_calls plan.calls)) (2 ^ 64 - 1)

-- from 0, along the plan of a search of some bytes, it counts them: there are never more
abbrev pub RunsCountAll : Type 0 → Type 0
RunsCountAll E =
    (settings : Settings) (meaning : Meaning) (bytes : List ℕ) (old new : ℕ) → old ≡ 0
    → IsRun {E = E} IsCountStep settings old (search_plan settings meaning bytes) (Ok tt) new
    → new ≡ length (match_calls (search_plan settings meaning bytes).calls)
