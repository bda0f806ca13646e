-- What `Last` and `EachLine` keep of a run.
use Rattle.std.proofs.Common.{◌≡◌, ℕ, suc, ◌+◌, ◌-◌, ◌≤◌, Bool, true, false, List, [], ◌∷◌, ◌++◌, length}
use Rattle.std.proofs.Common.{map, drop, refl, sym, ap, ◌∙◌, append_assoc, arith, if◌then◌else◌}
use Rattle.std.proofs.lemmas.Bool.{ltb-false, ltb-true}
use Rattle.std.proofs.lemmas.List.{append-nil, length-append}
use Rattle.std.specs.Prelude.{nat_lt}
use Rattle.grep_definitions.specs.Plans.{Call, reported_bytes}
use Rattle.grep_definitions.specs.SearchLaws.{match_calls}
use Rattle.grep_searcher.specs.SinkFolds.{fold_while}
use Rattle.grep_searcher.specs.MatchHandlers.{kept_of, KeptReport, LacksMemory, last_items}
use Rattle.grep_searcher.specs.MatchHandlers.{LastReports, RunsKeepBytes, RunsKeepLast, with_bytes}
use Rattle.grep_searcher.specs.MatchHandlers.{with_last, with_match}
use Rattle.grep_searcher.proofs.MatchHandlerLemmas.{runs-handle}

-- the last items of as many or fewer are all
last-few : {X : Type 0} (limit : ℕ) (items : List X) → length items ≤ limit
    → last_items limit items ≡ items
last-few limit items few =
    let none : length items - limit ≡ 0 = omega arith in
    ap (λ n. drop n items) none

-- one more in front is none of the last if there are enough
last-more : {X : Type 0} (limit : ℕ) (x : X) (items : List X) → limit ≤ length items
    → last_items limit (x ∷ items) ≡ last_items limit items
last-more limit x items enough =
    let front : length (x ∷ items) - limit ≡ (length items - limit) + 1 = omega arith in
    ap (λ n. drop n (x ∷ items)) front ∙ drop-one (length items - limit)
  where
    drop-one : (n : ℕ) → drop (n + 1) (x ∷ items) ≡ drop n items
    drop-one n = let next : n + 1 ≡ suc n = omega arith in ap (λ m. drop m (x ∷ items)) next

abbrev last_of : ℕ → List KeptReport → LastReports
last_of limit kept = record { limit = limit; kept = kept }

-- what is kept after one more match, if there is room for all but one of them, and before more
module _ (limit : ℕ) (later : List KeptReport) where
  kept-more : (kept : List KeptReport) (call : Call) → length kept ≤ limit → (b : Bool)
      → nat_lt limit (length kept + 1) ≡ b
      → (length (if b then drop 1 (with_match kept call) else with_match kept call) ≤ limit)
      × (last_items limit ((if b then drop 1 (with_match kept call) else with_match kept call)
      ++ later) ≡ last_items limit (kept ++ kept_of call ∷ later))
  kept-more kept call few false is =
      let room = ltb-false limit (length kept + 1) is in (
        omega (arith, room, length-append kept (kept_of call ∷ [])),
        ap (last_items limit) (append_assoc kept (kept_of call ∷ []) later),
      )
  kept-more [] call few true is =
      let full = ltb-true limit (length {A = KeptReport} [] + 1) is in
      (omega arith, sym (last-more limit (kept_of call) later (omega (arith, full))))
  kept-more (x ∷ kept) call few true is =
      let full = ltb-true limit (length (x ∷ kept) + 1) is in
      let size = length-append kept (kept_of call ∷ []) in (
        omega (arith, size, few),
        ap (last_items limit) (append_assoc kept (kept_of call ∷ []) later)
            ∙ sym (last-more limit x (kept ++ kept_of call ∷ later)
            (omega (arith, full, length-append kept (kept_of call ∷ later)))),
      )

fold_while-last : (limit : ℕ) (kept : List KeptReport) (calls : List Call) → length kept ≤ limit
    → fold_while (λ _ _. true) with_last (last_of limit kept) calls
    ≡ last_of limit (last_items limit (kept ++ map kept_of calls))
fold_while-last limit kept [] few =
    ap (last_of limit) (sym (ap (last_items limit) (append-nil kept) ∙ last-few limit kept few))
fold_while-last limit kept (call ∷ later) few =
    let more = kept-more limit (map kept_of later) kept call few (nat_lt limit (length kept + 1))
    refl in
    fold_while-last limit (with_last (last_of limit kept) call).kept later more.0
    ∙ ap (last_of limit) more.1

pub runs-keep_last : (A : Type 0) → RunsKeepLast A
runs-keep_last A settings limit old plan new is_new run =
    runs-handle (λ _ _. true) with_last (LacksMemory {A = A}) settings old plan new run
    ∙ ap (λ first. fold_while (λ _ _. true) with_last first (match_calls plan.calls)) is_new
    ∙ fold_while-last limit [] (match_calls plan.calls) (omega arith)

fold_while-with_bytes : (old : List (List ℕ)) (calls : List Call)
    → fold_while (λ _ _. true) with_bytes old calls ≡ old ++ map reported_bytes calls
fold_while-with_bytes old [] = sym (append-nil old)
fold_while-with_bytes old (call ∷ later) =
    fold_while-with_bytes (with_bytes old call) later
    ∙ append_assoc old (reported_bytes call ∷ []) (map reported_bytes later)

pub runs-keep_bytes : (A : Type 0) → RunsKeepBytes A
runs-keep_bytes A settings old plan new run =
    runs-handle (λ _ _. true) with_bytes (LacksMemory {A = A}) settings old plan new run
    ∙ fold_while-with_bytes old (match_calls plan.calls)
