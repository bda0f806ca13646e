-- Sinks that keep one item for each match, or for each call that passes a test, and the last call of
-- a run.
use Rattle.std.proofs.Common.{◌≡◌, Bool, true, false, List, [], ◌∷◌, ◌++◌, map, refl, ap, subst}
use Rattle.std.proofs.Common.{◌∙◌, inl, inr, Ok, if◌then◌else◌}
use Rattle.std.proofs.lemmas.Bool.{false≢true}
use Rattle.std.specs.Prelude.{filter}
use Rattle.std.specs.List.{flat_map}
use Rattle.grep_definitions.specs.Plans.{AreMade, Call, Finish, finishes, IsFinished, Outcome}
use Rattle.grep_definitions.specs.Plans.{Planned, search_plan, Settings, Steps}
use Rattle.grep_definitions.specs.SearchLaws.{calls_of, is_match}
use Rattle.grep_searcher.specs.AppendedItems.{AlwaysGoesOn, item_at, item_if, PartsAreItems}
use Rattle.grep_searcher.specs.AppendedItems.{RunsAppendHits, RunsAppendItems, RunsEnd}
use Rattle.grep_searcher.proofs.AppendedPartLemmas.{runs-append}
use Rattle.grep_searcher.proofs.LineFilterLemmas.{lines-are_filtered}

module _ {S E : Type 0} (step : Steps S E) (by : AlwaysGoesOn step) (settings : Settings)
    (finish : Finish) (new : S) where
  made-end : (calls : List Planned) (old : S) (outcome : Outcome E) (mid : S)
      → AreMade step settings old calls outcome mid
      → IsFinished step settings outcome mid finish (Ok tt) new
      → (last : S) × step last settings (finishes finish.count finish.binary) (Ok true) new
  made-end [] old outcome mid (is, same) finished =
      (mid, subst (λ o. IsFinished step settings o mid finish (Ok tt) new) is finished)
  made-end (planned ∷ later) old outcome mid (inl (between, made, rest)) finished =
      made-end later between outcome mid rest finished
  made-end (planned ∷ later) old outcome mid (inr (inl (is, made))) finished =
      absurd (false≢true (by old settings planned.call false mid made))
  made-end (planned ∷ later) old outcome mid (inr (inr (e, is, made))) finished =
      let failed = subst (λ o. IsFinished step settings o mid finish (Ok tt) new) is finished in
      absurd (let never = failed.0 in cc)

pub runs-end : {S E : Type 0} (step : Steps S E) → RunsEnd step
runs-end step by settings old plan new run =
    made-end step by settings plan.finish new plan.calls old run.outcome run.mid run.made
    run.finished

-- the items of some calls and one that doesn't pass are those of the calls that pass
items-of : {X : Type 0} (passes : Call → Bool) (item : Call → X) (calls : List Call) (last : Call)
    → passes last ≡ false
    → flat_map (item_if passes item) (calls ++ last ∷ []) ≡ map item (filter passes calls)
items-of passes item [] last none = rw none refl
items-of passes item (call ∷ later) last none =
    go (passes call) (items-of passes item later last none)
  where
    go : (b : Bool)
        → flat_map (item_if passes item) (later ++ last ∷ []) ≡ map item (filter passes later)
        → (if b then item call ∷ [] else []) ++ flat_map (item_if passes item) (later ++ last ∷ [])
        ≡ map item (if b then call ∷ filter passes later else filter passes later)
    go true rest = ap (λ items. item call ∷ items) rest
    go false rest = rest

pub parts-are_items : (X : Type 0) → PartsAreItems X
parts-are_items X passes item ends plan =
    items-of passes item (calls_of plan.calls) (finishes plan.finish.count plan.finish.binary)
    (ends plan.finish.count plan.finish.binary)

pub runs-append_items : {S E : Type 0} (step : Steps S E) (X : Type 0) → RunsAppendItems step X
runs-append_items step X kept item by settings old plan new run =
    runs-append step X kept (item_at item) by settings old plan new run
    ∙ ap (λ items. kept old ++ items) (parts-are_items X is_match item (λ _ _. refl) plan)

pub runs-append_hits : {S E : Type 0} (step : Steps S E) (X : Type 0) → RunsAppendHits step X
runs-append_hits step X kept item by settings meaning bytes by_line free old new run =
    runs-append_items step X kept item by settings old (search_plan settings meaning bytes) new run
    ∙ ap (λ calls. kept old ++ map item calls)
    (lines-are_filtered settings meaning bytes by_line free)
