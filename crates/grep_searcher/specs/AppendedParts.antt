-- Sinks and handlers that append something of each call to what they keep.
use Rattle.std.specs.Prelude.{◌≡◌, ℕ, Bool, true, false, List, [], ◌∷◌, ◌++◌, Ok}
use Rattle.std.specs.List.{flat_map}
use Rattle.grep_matcher.specs.Meanings.{Meaning}
use Rattle.grep_definitions.specs.Plans.{is_across, search_plan, Call, finishes, Plan, Steps, IsRun}
use Rattle.grep_definitions.specs.Plans.{Settings}
use Rattle.grep_definitions.specs.SearchLaws.{calls_of, match_calls, match_of, matched_lines}
use Rattle.grep_searcher.specs.SinkFolds.{fold_while}
use Rattle.grep_searcher.specs.MatchHandlers.{IsHandlerStep}

-- the calls of a run along a plan in which each returns true
abbrev pub run_calls : Plan → List Call
run_calls plan =
    calls_of plan.calls ++ finishes plan.finish.count plan.finish.binary ∷ []

module _ {S E : Type 0} (step : Steps S E) (X : Type 0) where
  -- each call that succeeds goes on, and appends a part for it to what is kept
  abbrev pub AppendsParts : (S → List X) → (Call → List X) → Type 0
  AppendsParts kept part =
      (old : S) (settings : Settings) (call : Call) (b : Bool) (new : S)
      → step old settings call (Ok b) new → (b ≡ true) × (kept new ≡ kept old ++ part call)

  -- then a run that ended in `Ok` appends the parts of all calls
  abbrev pub RunsAppend : Type 0
  RunsAppend =
      (kept : S → List X) (part : Call → List X) → AppendsParts kept part
      → (settings : Settings) (old : S) (plan : Plan) (new : S)
      → IsRun step settings old plan (Ok tt) new
      → kept new ≡ kept old ++ flat_map part (run_calls plan)

  -- the part may also depend on the state, as far as no call changes what it is
  abbrev pub AppendsPartsByState : (S → List X) → (S → Call → List X) → Type 0
  AppendsPartsByState kept part =
      (old : S) (settings : Settings) (call : Call) (b : Bool) (new : S)
      → step old settings call (Ok b) new
      → (b ≡ true) × (kept new ≡ kept old ++ part old call)
      × ((other : Call) → part new other ≡ part old other)

  abbrev pub RunsAppendPartsByState : Type 0
  RunsAppendPartsByState =
      (kept : S → List X) (part : S → Call → List X) → AppendsPartsByState kept part
      → (settings : Settings) (old : S) (plan : Plan) (new : S)
      → IsRun step settings old plan (Ok tt) new
      → kept new ≡ kept old ++ flat_map (part old) (run_calls plan)

module _ {H E : Type 0} (goes : H → Call → Bool) (next : H → Call → H)
    (fails : H → Call → E → H → Type 0) (X : Type 0) where
  -- each match lets the search go on, and appends a part for it to what is kept
  abbrev pub AppendsMatches : (H → List X) → (Call → List X) → Type 0
  AppendsMatches kept part =
      (old : H) (call : Call)
      → (goes old call ≡ true) × (kept (next old call) ≡ kept old ++ part call)

  -- the part may also depend on the state, as far as no match changes what it is
  abbrev pub AppendsByState : (H → List X) → (H → Call → List X) → Type 0
  AppendsByState kept part =
      (old : H) (call : Call)
      → (goes old call ≡ true) × (kept (next old call) ≡ kept old ++ part old call)
      × ((other : Call) → part (next old call) other ≡ part old other)

  -- then some calls that are handled append their parts
  abbrev pub CallsAppend : Type 0
  CallsAppend =
      (kept : H → List X) (part : H → Call → List X) → AppendsByState kept part
      → (old : H) (calls : List Call)
      → kept (fold_while goes next old calls) ≡ kept old ++ flat_map (part old) calls

  -- and a run that ended in `Ok` appends the parts of the matches that are reported
  abbrev pub RunsAppendByState : Type 0
  RunsAppendByState =
      (kept : H → List X) (part : H → Call → List X) → AppendsByState kept part
      → (settings : Settings) (old : H) (plan : Plan) (new : H)
      → IsRun (IsHandlerStep goes next fails) settings old plan (Ok tt) new
      → kept new ≡ kept old ++ flat_map (part old) (match_calls plan.calls)

  abbrev pub RunsAppendMatches : Type 0
  RunsAppendMatches =
      (kept : H → List X) (part : Call → List X) → AppendsMatches kept part
      → (settings : Settings) (old : H) (plan : Plan) (new : H)
      → IsRun (IsHandlerStep goes next fails) settings old plan (Ok tt) new
      → kept new ≡ kept old ++ flat_map part (match_calls plan.calls)

  -- by line those of the matched lines
  abbrev pub RunsAppendLines : Type 0
  RunsAppendLines =
      (kept : H → List X) (part : Call → List X) → AppendsMatches kept part
      → (settings : Settings) (meaning : Meaning) (bytes : List ℕ)
      → is_across settings meaning ≡ false
      → (old new : H)
      → IsRun (IsHandlerStep goes next fails) settings old
      (search_plan settings meaning bytes) (Ok tt) new
      → kept new ≡ kept old ++ flat_map (λ i. part (match_of settings bytes i))
      (matched_lines settings meaning bytes)
