-- Sinks that keep one item for each match, or for each call that passes a test, and the last call of
-- a run.
use Rattle.std.specs.Prelude.{◌≡◌, ℕ, Bool, true, false, if◌then◌else◌, List, [], ◌∷◌, ◌++◌, map}
use Rattle.std.specs.Prelude.{filter, Option, Ok}
use Rattle.std.specs.List.{flat_map}
use Rattle.grep_matcher.specs.Meanings.{Meaning}
use Rattle.grep_definitions.specs.Plans.{Call, finishes, is_across, IsRun, Plan, search_plan}
use Rattle.grep_definitions.specs.Plans.{Settings, Steps}
use Rattle.grep_definitions.specs.SearchLaws.{calls_of, is_match, match_calls}
use Rattle.grep_searcher.specs.AppendedParts.{AppendsParts, run_calls}
use Rattle.grep_searcher.specs.HitLines.{hit_matches, IsFilter}

-- the item of a match, and none of any other call
abbrev pub item_at : {X : Type 0} → (Call → X) → Call → List X
item_at item call = if is_match call then item call ∷ [] else []

-- that of a call that passes a test, and none of any other
abbrev pub item_if : {X : Type 0} → (Call → Bool) → (Call → X) → Call → List X
item_if passes item call = if passes call then item call ∷ [] else []

-- the items of all calls of a run are those of the planned calls that pass, if `finish` doesn't
abbrev pub PartsAreItems : Type 0 → Type 0
PartsAreItems X =
    (passes : Call → Bool) (item : Call → X)
    → ((bytes : ℕ) (binary : Option ℕ) → passes (finishes bytes binary) ≡ false) → (plan : Plan)
    → flat_map (item_if passes item) (run_calls plan) ≡ map item (filter passes (calls_of plan.calls))

module _ {S E : Type 0} (step : Steps S E) where
  -- each call that succeeds goes on
  abbrev pub AlwaysGoesOn : Type 0
  AlwaysGoesOn =
      (old : S) (settings : Settings) (call : Call) (b : Bool) (new : S)
      → step old settings call (Ok b) new → b ≡ true

  -- then the last call of a run that ended in `Ok` is `finish`, with the byte count of the whole
  -- plan
  abbrev pub RunsEnd : Type 0
  RunsEnd =
      AlwaysGoesOn → (settings : Settings) (old : S) (plan : Plan) (new : S)
      → IsRun step settings old plan (Ok tt) new
      → (mid : S) × step mid settings (finishes plan.finish.count plan.finish.binary) (Ok true) new

  -- if each match appends one item to what is kept, and no other call appends any, a run that ended
  -- in `Ok` appends those of the matches that are reported
  abbrev pub RunsAppendItems : Type 0 → Type 0
  RunsAppendItems X =
      (kept : S → List X) (item : Call → X) → AppendsParts step X kept (item_at item)
      → (settings : Settings) (old : S) (plan : Plan) (new : S)
      → IsRun step settings old plan (Ok tt) new
      → kept new ≡ kept old ++ map item (match_calls plan.calls)

  -- by line, without a stop and without a context after a limit, those of the lines that hit
  abbrev pub RunsAppendHits : Type 0 → Type 0
  RunsAppendHits X =
      (kept : S → List X) (item : Call → X) → AppendsParts step X kept (item_at item)
      → (settings : Settings) (meaning : Meaning) (bytes : List ℕ)
      → is_across settings meaning ≡ false → IsFilter settings → (old new : S)
      → IsRun step settings old (search_plan settings meaning bytes) (Ok tt) new
      → kept new ≡ kept old ++ map item (hit_matches settings meaning bytes)
