-- Sinks that count the calls of one kind.
use Rattle.std.specs.Prelude.{◌≡◌, ℕ, ◌+◌, ◌-◌, ◌<◌, ◌≤◌, ◌^◌, min, Bool, true, false}
use Rattle.std.specs.Prelude.{if◌then◌else◌, Option, Ok, count_by}
use Rattle.grep_definitions.specs.Plans.{Call, finishes, IsRun, Plan, Settings, Steps}
use Rattle.grep_definitions.specs.SearchLaws.{calls_of}
use Rattle.grep_searcher.specs.MatchHandlers.{FitsAtEnd}

-- one more if a call passes a test, up to the largest number
abbrev pub with_passing : (Call → Bool) → ℕ → Call → ℕ
with_passing passes count call = if passes call then min (count + 1) (2 ^ 64 - 1) else count

module _ {S E : Type 0} (step : Steps S E) where
  -- each call that succeeds goes on, and is counted if it passes the test
  abbrev pub CountsCalls : (Call → Bool) → (S → ℕ) → Type 0
  CountsCalls passes count =
      (old : S) (settings : Settings) (call : Call) (b : Bool) (new : S)
      → step old settings call (Ok b) new
      → (b ≡ true) × (count new ≡ with_passing passes (count old) call)

  -- then a run that ended in `Ok` adds how many calls pass, up to the largest number; `finish` is
  -- none of them
  abbrev pub RunsCountCalls : Type 0
  RunsCountCalls =
      (passes : Call → Bool) (count : S → ℕ)
      → ((bytes : ℕ) (binary : Option ℕ) → passes (finishes bytes binary) ≡ false)
      → CountsCalls passes count
      → (settings : Settings) (old : S) (plan : Plan) (new : S) → count old < 2 ^ 64
      → IsRun step settings old plan (Ok tt) new
      → count new ≡ min (count old + count_by passes (calls_of plan.calls)) (2 ^ 64 - 1)

  -- the same, and the byte count at the end fits in 64 bits
  abbrev pub CountsFitting : (Call → Bool) → (S → ℕ) → Type 0
  CountsFitting passes count =
      (old : S) (settings : Settings) (call : Call) (b : Bool) (new : S)
      → step old settings call (Ok b) new
      → (b ≡ true) × (count new ≡ with_passing passes (count old) call) × FitsAtEnd call

  -- then a run that ended in `Ok` counted from 0 exactly the calls that pass, if they are at most as
  -- many as the byte count
  abbrev pub RunsCountExactly : Type 0
  RunsCountExactly =
      (passes : Call → Bool) (count : S → ℕ)
      → ((bytes : ℕ) (binary : Option ℕ) → passes (finishes bytes binary) ≡ false)
      → CountsFitting passes count
      → (settings : Settings) (old : S) (plan : Plan) (new : S) → count old ≡ 0
      → count_by passes (calls_of plan.calls) ≤ plan.finish.count
      → IsRun step settings old plan (Ok tt) new
      → count new ≡ count_by passes (calls_of plan.calls)
