-- What handlers of matches make of a run.
use Rattle.std.proofs.Common.{◌≡◌, ℕ, zero, suc, ◌+◌, Bool, true, false, List, [], ◌∷◌, ◌++◌}
use Rattle.std.proofs.Common.{length, map, Some, None, ◌<◌, ◌^◌, refl, sym, ap, subst, ◌∙◌}
use Rattle.std.proofs.Common.{append_assoc, arith, inl, inr, Ok, Err, if◌then◌else◌}
use Rattle.std.proofs.Math.Seq.{take-nil}
use Rattle.std.proofs.lemmas.Bool.{false≢true, le-ltb, lt-ltb}
use Rattle.std.proofs.lemmas.List.{append-nil, length-append, take-map}
use Rattle.std.specs.Prelude.{Option, is_some, slice_get, take, nat_lt}
use Rattle.std.specs.List.{fold}
use Rattle.std.specs.Option.{option_map}
use Rattle.grep_definitions.specs.Plans.{Call, begins, matches, context, breaks, binary_data}
use Rattle.grep_definitions.specs.Plans.{finishes, Steps, Finish, Planned, Plan, Outcome, AreMade}
use Rattle.grep_definitions.specs.Plans.{IsFinished, IsRun, first_below, line_count, some_below}
use Rattle.grep_definitions.specs.Plans.{is_selected, is_touched_selected, Settings}
use Rattle.grep_definitions.specs.SearchLaws.{match_calls, match_of, is_match, matched_lines}
use Rattle.grep_definitions.proofs.MatchCallLemmas.{first_match-is_first, matches-are_matched_lines}
use Rattle.grep_searcher.specs.SinkFolds.{fold_while, IsMatchOk}
use Rattle.grep_searcher.proofs.SinkFoldLemmas.{runs-fold_matches}
use Rattle.grep_searcher.specs.MatchHandlers.{KeptReport, kept_of, with_match, FirstReports}
use Rattle.grep_searcher.specs.MatchHandlers.{has_room, with_first, IsHandlerStep, LacksMemory}
use Rattle.grep_searcher.specs.MatchHandlers.{RunsHandle, RunsFit, RunsFailAt, IsFoundStep}
use Rattle.grep_searcher.specs.MatchHandlers.{RunsFindAcross, RunsFindSelected, RunsCollect}
use Rattle.grep_searcher.specs.MatchHandlers.{RunsCollectLines, RunsKeepFirst, RunsCollectUntil}
use Rattle.grep_searcher.specs.MatchHandlers.{RunsKeepFirstLines}
use Rattle.grep_searcher.specs.Units.{unit_of}
use Rattle.grep_searcher.proofs.UnitCallLemmas.{first_match-is_first_unit}

module _ {H E : Type 0} (goes : H → Call → Bool) (next : H → Call → H) (fails : H → Call → E → H
    → Type 0) where
  abbrev step : Steps H E
  step = IsHandlerStep goes next fails

  pub runs-handle : RunsHandle goes next fails
  runs-handle settings old plan new run =
      runs-fold_matches step goes next (λ _ _ _ _ _ h. h.0) settings old plan new run

  -- if the handler always goes on, so does each call
  goes-on : ((old : H) (call : Call) → goes old call ≡ true) → (old : H) (call : Call) (b : Bool)
      (new : H) → IsMatchOk goes next old call b new → b ≡ true
  goes-on always old begins b new h = h.0
  goes-on always old (matches number offset bytes around) b new h = h.0
      ∙ always old (matches number offset bytes around)
  goes-on always old (context kind number offset bytes) b new h = h.0
  goes-on always old breaks b new h = h.0
  goes-on always old (binary_data offset) b new h = h.0
  goes-on always old (finishes count binary) b new h = h.0

  module _ (settings : Settings) (finish : Finish) (new : H) where
    made-fit : ((old : H) (call : Call) → goes old call ≡ true) → (calls : List Planned) (old : H)
        (outcome : Outcome E) (mid : H) → AreMade step settings old calls outcome mid
        → IsFinished step settings outcome mid finish (Ok tt) new → finish.count < 2 ^ 64
    made-fit always [] old outcome mid (is, same) finished =
        (subst (λ o. IsFinished step settings o mid finish (Ok tt) new) is finished).1
    made-fit always (planned ∷ later) old outcome mid (inl (between, made, rest)) finished =
        made-fit always later between outcome mid rest finished
    made-fit always (planned ∷ later) old outcome mid (inr (inl (is, made))) finished =
        absurd (false≢true (goes-on always old planned.call false mid made.0))
    made-fit always (planned ∷ later) old outcome mid (inr (inr (e, is, made))) finished =
        let last = subst (λ o. IsFinished step settings o mid finish (Ok tt) new) is finished in
        absurd (let never = last.0 in cc)

  pub runs-fit : RunsFit goes next fails
  runs-fit always settings old plan new run =
      made-fit settings plan.finish new always plan.calls old run.outcome run.mid run.made
      run.finished

  -- some matches were handled before one of these calls, which is a match, and at which it failed
  record FailedAt (old : H) (calls : List Call) (e : E) (new : H) : Type 0 where
    before : List Call
    call : Call
    later : List Call
    all : calls ≡ before ++ call ∷ later
    failed : fails (fold next old before) call e new

  -- a call before them that succeeded
  failed-after : (old : H) (planned : Planned) (b : Bool) (mid : H) (later : List Planned) (e : E)
      (new : H)
      → IsMatchOk goes next old planned.call b mid → FailedAt mid (match_calls later) e new
      → FailedAt old (match_calls (planned ∷ later)) e new
  failed-after old planned b mid later e new = go planned.call
    where
      go : (call : Call) → IsMatchOk goes next old call b mid
          → FailedAt mid (match_calls later) e new
          → FailedAt old (if is_match call then call ∷ match_calls later else match_calls later) e
          new
      go begins h at = subst (λ s. FailedAt s (match_calls later) e new) h.1 at
      go (matches number offset bytes around) h at = record {
        before = matches number offset bytes around ∷ at.before;
        call = at.call;
        later = at.later;
        all = ap (λ calls. matches number offset bytes around ∷ calls) at.all;
        failed = subst (λ s. fails (fold next s at.before) at.call e new) h.1 at.failed;
      }
      go (context kind number offset bytes) h at = subst (λ s. FailedAt s (match_calls later) e new)
          h.1 at
      go breaks h at = subst (λ s. FailedAt s (match_calls later) e new) h.1 at
      go (binary_data offset) h at = subst (λ s. FailedAt s (match_calls later) e new) h.1 at
      go (finishes count binary) h at = subst (λ s. FailedAt s (match_calls later) e new) h.1 at

  module _ (settings : Settings) (finish : Finish) (e : E) (new : H) where
    made-failed : (calls : List Planned) (old : H) (outcome : Outcome E) (mid : H)
        → AreMade step settings old calls outcome mid
        → IsFinished step settings outcome mid finish (Err e) new
        → FailedAt old (match_calls calls) e new
    made-failed [] old outcome mid (is, same) finished =
        absurd (false≢true (subst (λ o. IsFinished step settings o mid finish (Err e) new) is
        finished).0)
    made-failed (planned ∷ later) old outcome mid (inl (between, made, rest)) finished =
        failed-after old planned true between later e new made.0
        (made-failed later between outcome mid rest finished)
    made-failed (planned ∷ later) old outcome mid (inr (inl (is, made))) finished =
        absurd (false≢true (subst (λ o. IsFinished step settings o mid finish (Err e) new) is
        finished).0)
    made-failed (planned ∷ later) old outcome mid (inr (inr (e', is, made))) finished =
        let last = subst (λ o. IsFinished step settings o mid finish (Err e) new) is finished in
        let same : e' ≡ e = let err = last.0 in cc in
        record {
          before = [];
          call = planned.call;
          later = match_calls later;
          all = rw made.0 refl;
          failed = subst (λ x. fails old planned.call x new) same
              (subst (λ s. fails old planned.call e' s) (sym last.1) made.1);
        }

  pub runs-fail_at : RunsFailAt goes next fails
  runs-fail_at settings old plan e new run =
      let at = made-failed settings plan.finish e new plan.calls old run.outcome run.mid run.made
      run.finished in
      (at.before, at.call, at.later, at.all, at.failed)

-- whether there is a match, and whether it is at a number that passes
fold_while-found : (calls : List Call)
    → fold_while (λ _ _. false) (λ _ _. true) false calls ≡ is_some (slice_get calls 0)
fold_while-found [] = refl
fold_while-found (call ∷ later) = refl

is_some-mapped : {X Y : Type 0} (f : X → Y) (x : Option X) → is_some (option_map f x) ≡ is_some x
is_some-mapped f None = refl
is_some-mapped f (Some x) = refl

pub first_below-some : (p : ℕ → Bool) (n : ℕ) → is_some (first_below p n) ≡ some_below p n
first_below-some p zero = refl
first_below-some p (suc n) = grind (arith, first_below-some p n)

-- a new handler found a match exactly if a number passes, if the first match is the call of the
-- first that does
runs-find : {E : Type 0} (f : ℕ → Call) (p : ℕ → Bool) (n : ℕ) (settings : Settings) (plan : Plan)
    (old new : Bool)
    → slice_get (match_calls plan.calls) 0 ≡ option_map f (first_below p n) → old ≡ false
    → IsRun {E = E} IsFoundStep settings old plan (Ok tt) new → new ≡ some_below p n
runs-find {E} f p n settings plan old new is_first is_new run =
    let calls = match_calls plan.calls in
    runs-handle {E = E} (λ _ _. false) (λ _ _. true) (λ _ _ _ _. ⊥) settings old plan new run
    ∙ ap (λ found. fold_while (λ _ _. false) (λ _ _. true) found calls) is_new
    ∙ fold_while-found calls ∙ ap is_some is_first ∙ is_some-mapped f (first_below p n)
    ∙ first_below-some p n

pub runs-find_selected : (E : Type 0) → RunsFindSelected E
runs-find_selected E settings meaning bytes by_line old new is_new run =
    runs-find (match_of settings bytes) (is_selected settings meaning bytes)
    (line_count settings bytes) settings _ old new
    (first_match-is_first settings meaning bytes by_line) is_new run

pub runs-find_across : (E : Type 0) → RunsFindAcross E
runs-find_across E settings meaning bytes across old new is_new run =
    runs-find (unit_of settings meaning bytes) (is_touched_selected settings meaning bytes)
    (line_count settings bytes)
    settings _ old new (first_match-is_first_unit settings meaning bytes across) is_new run

-- each match is kept
fold_while-with_match : (old : List KeptReport) (calls : List Call)
    → fold_while (λ _ _. true) with_match old calls ≡ old ++ map kept_of calls
fold_while-with_match old [] = sym (append-nil old)
fold_while-with_match old (call ∷ later) =
    fold_while-with_match (with_match old call) later ∙ append_assoc old (kept_of call ∷ [])
    (map kept_of later)

pub runs-collect : (A : Type 0) → RunsCollect A
runs-collect A settings old plan new run =
    runs-handle (λ _ _. true) with_match (LacksMemory {A = A}) settings old plan new run
    ∙ fold_while-with_match old (match_calls plan.calls)

-- those that were kept before one that wasn't
fold-with_match : (old : List KeptReport) (calls : List Call) → fold with_match old calls ≡ old
    ++ map kept_of calls
fold-with_match old [] = sym (append-nil old)
fold-with_match old (call ∷ later) =
    fold-with_match (with_match old call) later ∙ append_assoc old (kept_of call ∷ [])
    (map kept_of later)

pub runs-collect_until : (A : Type 0) → RunsCollectUntil A
runs-collect_until A settings old plan e new run =
    let at = runs-fail_at (λ _ _. true) with_match (LacksMemory {A = A}) settings old plan e new
    run in
    (at.4.0, at.0, at.1 ∷ at.2, at.3, at.4.1 ∙ fold-with_match old at.0)

map-kept_lines : (f : ℕ → Call) (listed : List ℕ) → map kept_of (map f listed)
    ≡ map (λ i. kept_of (f i)) listed
map-kept_lines f [] = refl
map-kept_lines f (i ∷ later) = ap (λ kept. kept_of (f i) ∷ kept) (map-kept_lines f later)

pub runs-collect_lines : (A : Type 0) → RunsCollectLines A
runs-collect_lines A settings meaning bytes by_line old new run =
    runs-collect A settings old _ new run
    ∙ ap (λ calls. old ++ map kept_of calls) (matches-are_matched_lines settings meaning bytes
    by_line) ∙ ap (λ kept. old ++ kept) (map-kept_lines (match_of settings bytes)
    (matched_lines settings meaning bytes))

abbrev kept_up_to : ℕ → List KeptReport → FirstReports
kept_up_to limit kept = record { limit = limit; kept = kept }

-- with room for some more, that many are kept
fold_while-first : (limit room : ℕ) (kept : List KeptReport) (calls : List Call) → length kept
    + room ≡ limit
    → fold_while (λ old call. has_room (with_first old call)) with_first (record {
      limit = limit;
      kept = kept;
    }) calls ≡ record { limit = limit; kept = kept ++ map kept_of (take room calls) }
fold_while-first limit room kept [] fits =
    rw (take-nil room) (ap (kept_up_to limit) (sym (append-nil kept)))
fold_while-first limit zero kept (call ∷ later) fits =
    let full : nat_lt (length kept) limit ≡ false = le-ltb _ _ (omega (arith, fits)) in
    rw (full, full) (ap (kept_up_to limit) (sym (append-nil kept)))
fold_while-first limit (suc zero) kept (call ∷ later) fits =
    let room : nat_lt (length kept) limit ≡ true = lt-ltb (length kept) limit
    (omega (arith, fits)) in
    let full : nat_lt (length (with_match kept call)) limit ≡ false =
    le-ltb _ _ (omega (arith, fits, length-append kept (kept_of call ∷ []))) in
    rw (room, full) refl
fold_while-first limit (suc (suc room)) kept (call ∷ later) fits =
    let here : nat_lt (length kept) limit ≡ true = lt-ltb (length kept) limit
    (omega (arith, fits)) in
    let size = length-append kept (kept_of call ∷ []) in
    let more : nat_lt (length (with_match kept call)) limit ≡ true =
    lt-ltb (length (with_match kept call)) limit (omega (arith, fits, size)) in
    rw (here, more) (fold_while-first limit (suc room) (with_match kept call) later
    (omega (arith, fits, size)) ∙ ap (kept_up_to limit)
    (append_assoc kept (kept_of call ∷ []) (map kept_of (take (suc room) later))))

pub runs-keep_first : (A : Type 0) → RunsKeepFirst A
runs-keep_first A settings limit old plan new is_new run =
    let goes : FirstReports → Call → Bool = λ old call. has_room (with_first old call) in
    let calls = match_calls plan.calls in
    runs-handle goes with_first (LacksMemory {A = A}) settings old plan new run
    ∙ ap (λ first. fold_while goes with_first first calls) is_new
    ∙ fold_while-first limit limit [] calls (omega arith)

pub runs-keep_first_lines : (A : Type 0) → RunsKeepFirstLines A
runs-keep_first_lines A settings meaning bytes by_line limit old new is_new run =
    let listed = matched_lines settings meaning bytes in
    runs-keep_first A settings limit old _ new is_new run ∙ ap (kept_up_to limit)
    (ap (λ calls. map kept_of (take limit calls)) (matches-are_matched_lines settings meaning bytes
    by_line) ∙ ap (map kept_of) (take-map (match_of settings bytes) limit listed)
    ∙ map-kept_lines (match_of settings bytes) (take limit listed))
