-- Sinks that count the calls of one kind.
use Rattle.std.proofs.Common.{◌≡◌, ℕ, ◌+◌, ◌-◌, ◌<◌, ◌≤◌, ◌^◌, min, Bool, true, false, List, []}
use Rattle.std.proofs.Common.{◌∷◌, ◌++◌}
use Rattle.std.proofs.Common.{arith, ap, if◌then◌else◌, ◌∙◌}
use Rattle.std.proofs.lemmas.List.Sums.{sum_by-append}
use Rattle.std.specs.Prelude.{cond, count_by}
use Rattle.grep_definitions.specs.Plans.{Call, finishes, Steps}
use Rattle.grep_definitions.specs.SearchLaws.{calls_of}
use Rattle.grep_searcher.specs.CountedCalls.{RunsCountCalls, RunsCountExactly, with_passing}
use Rattle.grep_searcher.proofs.AppendedItemLemmas.{runs-end}
use Rattle.grep_searcher.proofs.RunInvariantLemmas.{runs-keep}

-- a count from 0 is exact, if no more is counted than some number that fits in 64 bits
pub count-exact : (count n most : ℕ) → count ≡ min (0 + n) (2 ^ 64 - 1) → n ≤ most → most < 2 ^ 64
    → count ≡ n
count-exact count n most is few fits = omega arith

-- how many of some calls and one more pass
count-more : (passes : Call → Bool) (before : List Call) (call : Call)
    → count_by passes (before ++ call ∷ [])
    ≡ count_by passes before + (if passes call then 1 else 0)
count-more passes before call =
    let one : 0 + (if passes call then 1 else 0) ≡ (if passes call then 1 else 0) = omega arith in
    sum_by-append (λ c. cond (passes c) 1 0) before (call ∷ [])
    ∙ ap (λ n. count_by passes before + n) one

-- a count so far, and one call more
pub count-next : (passes : Call → Bool) (first old : ℕ) (before : List Call) (call : Call)
    → old ≡ min (first + count_by passes before) (2 ^ 64 - 1)
    → with_passing passes old call
    ≡ min (first + count_by passes (before ++ call ∷ [])) (2 ^ 64 - 1)
count-next passes first old before call held = go (passes call) (count-more passes before call)
  where
    go : (b : Bool) → count_by passes (before ++ call ∷ [])
        ≡ count_by passes before + (if b then 1 else 0)
        → (if b then min (old + 1) (2 ^ 64 - 1) else old)
        ≡ min (first + count_by passes (before ++ call ∷ [])) (2 ^ 64 - 1)
    go true more = omega (arith, more)
    go false more = omega (arith, more)

pub runs-count_calls : {S E : Type 0} (step : Steps S E) → RunsCountCalls step
runs-count_calls step passes count ends by settings old plan new fits run =
    let last = finishes plan.finish.count plan.finish.binary in
    let all = runs-keep step
    (λ calls state. count state ≡ min (count old + count_by passes calls) (2 ^ 64 - 1))
    (λ before from settings call b after held made.
    let here = by from settings call b after made in (
      here.0,
      here.1 ∙ count-next passes (count old) (count from) before call held,
    )) settings old plan new (omega (arith, fits)) run in
    let none = count-more passes (calls_of plan.calls) last in
    all ∙ ap (λ n. min (count old + n) (2 ^ 64 - 1)) (none
    ∙ ap (λ b. count_by passes (calls_of plan.calls) + (if b then 1 else 0))
    (ends plan.finish.count plan.finish.binary) ∙ omega arith)

pub runs-count_exactly : {S E : Type 0} (step : Steps S E) → RunsCountExactly step
runs-count_exactly step passes count ends by settings old plan new zero few run =
    let counted = runs-count_calls step passes count ends (λ from at call b after made.
    let here = by from at call b after made in (here.0, here.1)) settings old plan new
    (omega (arith, zero)) run in
    let end = runs-end step (λ from at call b after made. (by from at call b after made).0) settings
    old plan new run in
    count-exact (count new) _ _ (rw zero at counted) few (by end.0 settings _ true new end.1).2
