-- Runs of sinks whose steps are functions, and what a search without binary detection comes to.
use Rattle.grep_definitions.proofs.SeenSearchLemmas.{input-search}
use Rattle.grep_definitions.specs.Plans.{planned, Call, begins, matches, context, breaks}
use Rattle.grep_definitions.specs.Plans.{binary_data, finishes, Steps, Finish, Planned, Plan}
use Rattle.grep_definitions.specs.Plans.{Outcome, AreMade, IsFinished, IsRun, search_plan, IsLawful}
use Rattle.grep_definitions.specs.Plans.{refusal_of, Settings, SearcherState}
use Rattle.std.proofs.Common.{◌≡◌, ℕ, Bool, true, false, List, [], ◌∷◌, Option, Some, None, refl}
use Rattle.std.proofs.Common.{sym, ◌∙◌, ap, subst, inl, inr, length, Result, Ok, Err}
use Rattle.std.proofs.Common.{◌++◌, append_assoc}
use Rattle.std.proofs.lemmas.List.{append-nil}
use Rattle.std.specs.Prelude.{◌⊎◌}
use Rattle.std.specs.List.{fold}
use Rattle.grep_decode.specs.Source.{ReadResult}
use Rattle.grep_matcher.specs.Meanings.{IsInfallible, MatcherFacts}
use Rattle.grep_report.specs.declared.binary_detection.BinaryDetection.TheVariants.{None as no_detection}
use Rattle.grep_report.specs.declared.config_error.ConfigError.{ConfigError}
use Rattle.grep_definitions.specs.Searches.{nowhere, look_of, BinaryPoint, plan_with, IsPoint}
use Rattle.grep_definitions.specs.Searches.{IsSearchOf, IsRead, IsCutSearch, IsUnlessRefusedBy, ran}
use Rattle.grep_definitions.specs.Searches.{asked, searched_bytes, Points}
use Rattle.grep_report.specs.ErrorMakers.{ErrorMakers}
use Rattle.grep_definitions.specs.SliceSearches.{IsSliceSearch, IsSliceRead, IsSliceSearchedIf}
use Rattle.grep_definitions.specs.SliceSearches.{is_searched_unchanged}
use Rattle.grep_definitions.specs.SearchLaws.{calls_of, is_match, match_calls}
use Rattle.grep_definitions.proofs.DecodedLemmas.{unchanged-input}
use Rattle.grep_searcher.specs.SinkFolds.{fold_while, run_fold, AreTaken, IsTakenOk, IsTakenBy}
use Rattle.grep_searcher.specs.SinkFolds.{CallsReach}
use Rattle.grep_searcher.specs.SinkFolds.{StepsBy, RunsFold, RunsFoldAll, RunsFoldMatches}
use Rattle.grep_searcher.specs.SinkFolds.{FailsAtStep, SearchesRun, ReaderSearchesRun}
use Rattle.grep_searcher.specs.SinkFolds.{SearchesFail, ReaderSearchesFail, KnownReadersRun}
use Rattle.grep_definitions.proofs.KnownReaderLemmas.{taken-input}

module _ {V : Type 0} (taken : V → Call → Bool → V → Type 0) where
  -- a call that is a match, and one that isn't
  matched-step : (old : V) (call : Call) (b : Bool) (new : V) → is_match call ≡ true
      → IsTakenOk taken old call b new → taken old call b new
  matched-step old begins b new is h = cc
  matched-step old (matches number offset line around) b new is h = h
  matched-step old (context kind number offset line) b new is h = cc
  matched-step old breaks b new is h = cc
  matched-step old (binary_data offset) b new is h = cc
  matched-step old (finishes count binary) b new is h = cc

  other-step : (old : V) (call : Call) (b : Bool) (new : V) → is_match call ≡ false
      → IsTakenOk taken old call b new → (b ≡ true) × (new ≡ old)
  other-step old begins b new is h = h
  other-step old (matches number offset line around) b new is h = cc
  other-step old (context kind number offset line) b new is h = h
  other-step old breaks b new is h = h
  other-step old (binary_data offset) b new is h = h
  other-step old (finishes count binary) b new is h = h

  -- some calls of which the first is a match, or isn't
  taken-match : (old mid : V) (planned : Planned) (later : List Planned) (new : V)
      → is_match planned.call ≡ true → taken old planned.call true mid
      → AreTaken taken mid (match_calls later) new
      → AreTaken taken old (match_calls (planned ∷ later)) new
  taken-match old mid planned later new is here rest = rw is (inl (mid, here, rest))

  taken-last : (old : V) (planned : Planned) (later : List Planned) (new : V)
      → is_match planned.call ≡ true → taken old planned.call false new
      → AreTaken taken old (match_calls (planned ∷ later)) new
  taken-last old planned later new is here = rw is (inr here)

  taken-other : (old : V) (planned : Planned) (later : List Planned) (new : V)
      → is_match planned.call ≡ false → AreTaken taken old (match_calls later) new
      → AreTaken taken old (match_calls (planned ∷ later)) new
  taken-other old planned later new is rest = rw is rest

module _ {S E : Type 0} (step : Steps S E) (settings : Settings) (finish : Finish) (new : S) where
  module _ (goes : S → Call → Bool) (next : S → Call → S) where
    made-fold : StepsBy step goes next → (calls : List Planned) (old : S) (outcome : Outcome E)
        (mid : S) → AreMade step settings old calls outcome mid
        → IsFinished step settings outcome mid finish (Ok tt) new
        → new ≡ run_fold goes next old calls finish
    made-fold by [] old outcome mid (is, same) finished =
        let last = subst (λ o. IsFinished step settings o mid finish (Ok tt) new) is finished in
        (by mid settings (finishes finish.count finish.binary) true new last).1
        ∙ ap (λ s. next s (finishes finish.count finish.binary)) same
    made-fold by (planned ∷ later) old outcome mid (inl (between, made, rest)) finished =
        let here = by old settings planned.call true between made in
        rw (← here.0) (made-fold by later between outcome mid rest finished
        ∙ ap (λ s. run_fold goes next s later finish) here.1)
    made-fold by (planned ∷ later) old outcome mid (inr (inl (is, made))) finished =
        let here = by old settings planned.call false mid made in
        let last = subst (λ o. IsFinished step settings o mid finish (Ok tt) new) is finished in
        rw (← here.0) ((by mid settings (finishes planned.if_false.count planned.if_false.binary)
        true new last).1
        ∙ ap (λ s. next s (finishes planned.if_false.count planned.if_false.binary)) here.1)
    made-fold by (planned ∷ later) old outcome mid (inr (inr (e, is, made))) finished =
        let last = subst (λ o. IsFinished step settings o mid finish (Ok tt) new) is finished in
        absurd (let never = last.0 in cc)

-- A run of a sink that takes matches alone, as seen through a view of its state.
module _ {S E V : Type 0} (step : Steps S E) (settings : Settings) (finish : Finish) (new : S)
    (view : S → V) (taken : V → Call → Bool → V → Type 0)
    (by : (old : S) (call : Call) (b : Bool) (after : S) → step old settings call (Ok b) after
    → IsTakenOk taken (view old) call b (view after)) where
  made-taken : (calls : List Planned) (old : S) (outcome : Outcome E) (mid : S)
      → AreMade step settings old calls outcome mid → IsFinished step settings outcome mid finish
      (Ok tt) new → AreTaken taken (view old) (match_calls calls) (view new)
  made-taken [] old outcome mid (is, same) finished =
      let last = subst (λ o. IsFinished step settings o mid finish (Ok tt) new) is finished in
      (by mid (finishes finish.count finish.binary) true new last).1 ∙ ap view same
  made-taken (planned ∷ later) old outcome mid (inl (between, made, rest)) finished =
      go (is_match planned.call) refl (made-taken later between outcome mid rest finished)
    where
      go : (b : Bool) → is_match planned.call ≡ b → AreTaken taken (view between)
          (match_calls later) (view new)
          → AreTaken taken (view old) (match_calls (planned ∷ later)) (view new)
      go true is rest =
          let here = matched-step taken (view old) planned.call true (view between) is
          (by old planned.call true between made) in
          taken-match taken (view old) (view between) planned later (view new) is here rest
      go false is rest =
          let here = other-step taken (view old) planned.call true (view between) is
          (by old planned.call true between made) in
          taken-other taken (view old) planned later (view new) is
          (subst (λ v. AreTaken taken v (match_calls later) (view new)) here.1 rest)
  made-taken (planned ∷ later) old outcome mid (inr (inl (is, made))) finished =
      go (is_match planned.call) refl
    where
      same : view new ≡ view mid
      same =
          let last = subst (λ o. IsFinished step settings o mid finish (Ok tt) new) is finished in
          (by mid (finishes planned.if_false.count planned.if_false.binary) true new last).1

      go : (b : Bool) → is_match planned.call ≡ b
          → AreTaken taken (view old) (match_calls (planned ∷ later)) (view new)
      go true is_b =
          let here = matched-step taken (view old) planned.call false (view mid) is_b
          (by old planned.call false mid made) in
          taken-last taken (view old) planned later (view new) is_b
          (subst (λ v. taken (view old) planned.call false v) (sym same) here)
      go false is_b =
          let here = other-step taken (view old) planned.call false (view mid) is_b
          (by old planned.call false mid made) in
          absurd (let never = here.0 in cc)
  made-taken (planned ∷ later) old outcome mid (inr (inr (e, is, made))) finished =
      let last = subst (λ o. IsFinished step settings o mid finish (Ok tt) new) is finished in
      absurd (let never = last.0 in cc)

  pub runs-take_matches : (old : S) (calls : List Planned) → IsRun step settings old (record {
    calls = calls;
    finish =
        finish;
  }) (Ok tt) new → AreTaken taken (view old) (match_calls calls) (view new)
  runs-take_matches old calls run = made-taken calls old run.outcome run.mid run.made run.finished

-- matches that are taken by functions of the state and the call are a fold
taken-fold : {S : Type 0} (goes : S → Call → Bool) (next : S → Call → S) (calls : List Call)
    (old new : S)
    → AreTaken (IsTakenBy goes next) old calls new → new ≡ fold_while goes next old calls
taken-fold goes next [] old new same = same
taken-fold goes next (call ∷ later) old new (inl (mid, here, rest)) =
    rw (← here.0) (taken-fold goes next later mid new rest ∙ ap (λ s. fold_while goes next s later)
    here.1)
taken-fold goes next (call ∷ later) old new (inr here) = rw (← here.0) here.1

-- a fold that always goes on is std's
run_fold-all : {S : Type 0} (next : S → Call → S) (old : S) (calls : List Planned) (finish : Finish)
    → run_fold (λ s call. true) next old calls finish
    ≡ next (fold next old (calls_of calls)) (finishes finish.count finish.binary)
run_fold-all next old [] finish = refl
run_fold-all next old (planned ∷ later) finish = run_fold-all next (next old planned.call) later
    finish

module _ {S : Type 0} (goes : S → Call → Bool) (next : S → Call → S) where
  -- from the state after some calls, later ones lead to the state after all
  calls-go_on : (state_after : List Call → S)
      → ((before : List Call) (call : Call) → (goes (state_after before) call ≡ true)
      × (next (state_after before) call ≡ state_after (before ++ call ∷ [])))
      → (before later : List Call)
      → fold_while goes next (state_after before) later ≡ state_after (before ++ later)
  calls-go_on state_after by before [] = ap state_after (sym (append-nil before))
  calls-go_on state_after by before (call ∷ later) =
      let here = by before call in
      rw here.0 (ap (λ state. fold_while goes next state later) here.1
      ∙ calls-go_on state_after by (before ++ call ∷ []) later
      ∙ ap state_after (append_assoc before (call ∷ []) later))

  pub calls-reach : CallsReach goes next
  calls-reach state_after by old calls new =
      ap (λ state. fold_while goes next state calls) new ∙ calls-go_on state_after by [] calls

module _ {S E : Type 0} (step : Steps S E) where
  pub runs-fold : RunsFold step
  runs-fold goes next by settings old plan new run =
      made-fold step settings plan.finish new goes next by plan.calls old run.outcome run.mid
      run.made run.finished

  pub runs-fold_all : RunsFoldAll step
  runs-fold_all next by settings old plan new run =
      runs-fold (λ s call. true) next by settings old plan new run
      ∙ run_fold-all next old plan.calls plan.finish

  pub runs-fold_matches : RunsFoldMatches step
  runs-fold_matches goes next by settings old plan new run =
      taken-fold goes next (match_calls plan.calls) old new
      (runs-take_matches step settings plan.finish new (λ s. s) (IsTakenBy goes next)
      (λ from call b after made. by from settings call b after made) old plan.calls run)

  -- an error of a run is that of its last step
  pub made-fails : (settings : Settings) (finish : Finish) (e : E) (new : S)
      (calls : List Planned) (old : S) (outcome : Outcome E) (mid : S)
      → AreMade step settings old calls outcome mid → IsFinished step settings outcome mid finish
      (Err e) new → (from : S) × (call : Call) × step from settings call (Err e) new
  made-fails settings finish e new [] old outcome mid (is, same) finished = (
    mid,
    finishes finish.count finish.binary,
    subst (λ o. IsFinished step settings o mid finish (Err e) new) is finished,
  )
  made-fails settings finish e new (planned ∷ later) old outcome mid (inl (between, made, rest))
      finished =
      made-fails settings finish e new later between outcome mid rest finished
  made-fails settings finish e new (planned ∷ later) old outcome mid (inr (inl (is, made)))
      finished = (
        mid,
        finishes planned.if_false.count planned.if_false.binary,
        subst (λ o. IsFinished step settings o mid finish (Err e) new) is finished,
      )
  made-fails settings finish e new (planned ∷ later) old outcome mid (inr (inr (e', is, made)))
      finished =
      let last = subst (λ o. IsFinished step settings o mid finish (Err e) new) is finished in
      let same : e' ≡ e = let err = last.0 in cc in
      let there = subst (λ s. step old settings planned.call (Err e') s) (sym last.1) made in
      (old, planned.call, subst (λ x. step old settings planned.call (Err x) new) same there)

module _ {S E F : Type 0} (step : Steps S E) (errors : ErrorMakers F E) (matcher : MatcherFacts F)
  where
    -- a search that wasn't refused
    pub not-refused : (k : Settings) (old new : S) (IsSame IsSearched : Type 0)
        (refusal : Option ConfigError) → IsLawful matcher k
        → IsUnlessRefusedBy errors matcher k old (Ok tt) new IsSame IsSearched refusal → IsSearched
    not-refused k old new IsSame IsSearched None lawful searched = searched lawful
    not-refused k old new IsSame IsSearched (Some refusal) lawful (e, is, made, same, left) = cc

    looks-nowhere : (k : Settings) → k.binary_detection ≡ no_detection → (unchanged : Bool)
        → look_of k matcher.meaning unchanged ≡ nowhere
    looks-nowhere k none unchanged = rw none refl

    -- no binary byte is reported
    along : (k : Settings) {IsAt : Points} {IsAsked : List ℕ → List Planned → Type 0}
        {HasRead : Plan → Outcome E → Result (Unit {0}) E → Type 0}
        → ((calls : List Planned) (point : Option BinaryPoint) → IsAt calls point → point ≡ None)
        → (plan : Plan) (old new : S)
        → IsSearchOf step errors matcher k IsAt IsAsked HasRead plan old (Ok tt) new
        → IsRun step k old plan (Ok tt) new
    along k none plan old new (ran point at run read) =
        subst (λ p. IsRun step k old (plan_with k.binary_detection p plan) (Ok tt) new)
        (none plan.calls point at) run

    -- an error is that of the run's last step
    fails-search : (k : Settings) {IsAt : Points} {IsAsked : List ℕ → List Planned → Type 0}
        {HasRead : Plan → Outcome E → Result (Unit {0}) E → Type 0} (plan : Plan) (old : S) (e : E)
        (new : S) → IsInfallible matcher.fails
        → IsSearchOf step errors matcher k IsAt IsAsked HasRead plan old (Err e) new
        → FailsAtStep step errors matcher k e new
    fails-search k plan old e new infallible (ran point at run read) =
        let made = plan_with k.binary_detection point plan in
        made-fails step k made.finish e new made.calls old run.outcome run.mid run.made run.finished
    fails-search k plan old e new infallible (asked haystack error calls asks fails message made) =
        absurd (infallible haystack error fails)

    module _ {R : Type 0} (remaining : R → Option (List ℕ)) (read_step : R → ReadResult → R
        → Type 0)
      where
        -- a search that looks for no binary byte
        read-nowhere : (state : SearcherState) (reader : R) (old : S) (result : Result (Unit {0}) E)
            (reader' : R) (new : S) → state.settings.binary_detection ≡ no_detection
            → IsRead remaining read_step step errors matcher state
            (look_of state.settings matcher.meaning false) reader old result reader' new
            → IsRead remaining read_step step errors matcher state nowhere reader old result reader'
            new
        read-nowhere state reader old result reader' new none read =
            subst (λ look. IsRead remaining read_step step errors matcher state look reader old
            result reader' new) (looks-nowhere state.settings none false) read

        pub reader_searches-run : ReaderSearchesRun step errors matcher remaining read_step
        reader_searches-run state reader old reader' new none lawful searched =
            let k = state.settings in
            let read = read-nowhere state reader old (Ok tt) reader' new none
            (not-refused k old new (reader' ≡ reader) _ (refusal_of k matcher.meaning) lawful
            searched)
            in (
              read,
              λ bytes input. along k (λ calls point at. at) (search_plan k matcher.meaning bytes)
                  old new (input-search step errors matcher state nowhere read bytes input),
            )

        pub known_readers-run : KnownReadersRun step errors matcher remaining read_step
        known_readers-run state reader input old reader' new none all lawful searched =
            let run = reader_searches-run state reader old reader' new none lawful searched in
            run.1 (searched_bytes state.settings input)
            (taken-input remaining read_step state.settings input reader reader' all run.0.taken)

        pub reader_searches-fail : ReaderSearchesFail step errors matcher remaining read_step
        reader_searches-fail state reader old e reader' new none infallible lawful allowed
            searched =
            let k = state.settings in
            elim (read-nowhere state reader old (Err e) reader' new none
            (subst (IsUnlessRefusedBy errors matcher k old (Err e) new (reader' ≡ reader)
            (IsRead remaining read_step step errors
            matcher state (look_of k matcher.meaning false) reader old (Err e) reader' new)) allowed
            searched lawful)) [
              | inl read ↦ inl (fails-search k (search_plan k matcher.meaning read.seen) old e new
                  infallible read.over_seen)
              | inr cut ↦ inr cut
            ]

    pub searches-run : SearchesRun step errors matcher
    searches-run state input old new none lawful searched =
        go (is_searched_unchanged state.settings input) refl searched
      where
        go : (b : Bool) → is_searched_unchanged state.settings input ≡ b
            → IsSliceSearchedIf step errors matcher state input b old (Ok tt) new
            → IsRun step state.settings old (search_plan state.settings matcher.meaning
            (searched_bytes state.settings input)) (Ok tt) new
        go true is searched =
            subst (λ bytes. IsRun step state.settings old
            (search_plan state.settings matcher.meaning bytes) (Ok tt) new)
            (sym (unchanged-input state.settings input is)) (along state.settings
            (λ calls point at. subst (λ look. IsPoint state.settings matcher.meaning input look
            (length input) calls point) (looks-nowhere state.settings none true) at)
            (search_plan state.settings matcher.meaning input) old new
            (not-refused state.settings old new (Unit {0}) _
            (refusal_of state.settings matcher.meaning) lawful searched))
        go false is (rest, searched) =
            known_readers-run (λ all. Some all) IsSliceRead state input input old rest new none refl
            lawful searched

    pub searches-fail : SearchesFail step errors matcher
    searches-fail state input old e new none infallible lawful allowed searched =
        go (is_searched_unchanged state.settings input) refl searched
      where
        go : (b : Bool) → is_searched_unchanged state.settings input ≡ b
            → IsSliceSearchedIf step errors matcher state input b old (Err e) new
            → FailsAtStep step errors matcher state.settings e new
            ⊎ ((is_searched_unchanged state.settings input ≡ false) × (rest : List ℕ)
            × IsCutSearch (λ all. Some all) IsSliceRead step errors matcher state nowhere input old
            e rest new)
        go true is searched =
            inl (fails-search state.settings (search_plan state.settings matcher.meaning input) old
            e new infallible
            (subst (IsUnlessRefusedBy errors matcher state.settings old (Err e) new (Unit {0})
            (IsSliceSearch step errors matcher state.settings input old (Err e) new)) allowed
            searched lawful))
        go false is (rest, searched) =
            elim (reader_searches-fail (λ all. Some all) IsSliceRead state input old e rest new none
            infallible lawful
            allowed searched) [
              | inl fails ↦ inl fails
              | inr cut ↦ inr (is, rest, cut)
            ]
