-- What holds before a run and is kept by each call holds at its end.
use Rattle.std.proofs.Common.{Bool, true, false, List, [], ◌∷◌, ◌++◌, map, sym}
use Rattle.std.proofs.Common.{subst, inl, inr, Ok, append_assoc}
use Rattle.std.proofs.lemmas.Bool.{false≢true}
use Rattle.std.proofs.lemmas.List.{append-nil, map-append}
use Rattle.grep_definitions.specs.Plans.{AreMade, Call, Finish, finishes, IsFinished, Outcome}
use Rattle.grep_definitions.specs.Plans.{Planned, Settings, Steps}
use Rattle.grep_definitions.specs.SearchLaws.{calls_of}
use Rattle.grep_searcher.specs.HitLines.{hit_matches}
use Rattle.grep_searcher.specs.MatchHandlers.{KeptReport, kept_of}
use Rattle.grep_searcher.specs.RunInvariants.{CallsKeep, HitsKeep, MatchesKeep, RunsKeep, StepsKeep}
use Rattle.grep_searcher.specs.SinkFolds.{fold_while}

module _ {S E : Type 0} (step : Steps S E) (Holds : List Call → S → Type 0)
    (by : StepsKeep step Holds) (settings : Settings) (finish : Finish) (new : S) where
  abbrev last : Call
  last = finishes finish.count finish.binary

  -- from the state after some calls on
  made-keep : (calls : List Planned) (before : List Call) (old : S) (outcome : Outcome E) (mid : S)
      → Holds before old → AreMade step settings old calls outcome mid
      → IsFinished step settings outcome mid finish (Ok tt) new
      → Holds (before ++ (calls_of calls ++ last ∷ [])) new
  made-keep [] before old outcome mid holds (is, same) finished =
      let made = subst (λ o. IsFinished step settings o mid finish (Ok tt) new) is finished in
      (by before mid settings last true new (subst (Holds before) (sym same) holds) made).1
  made-keep (planned ∷ later) before old outcome mid holds (inl (between, made, rest)) finished =
      let here = by before old settings planned.call true between holds made in
      subst (λ calls. Holds calls new)
      (append_assoc before (planned.call ∷ []) (calls_of later ++ last ∷ []))
      (made-keep later (before ++ planned.call ∷ []) between outcome mid here.1 rest finished)
  made-keep (planned ∷ later) before old outcome mid holds (inr (inl (is, made))) finished =
      absurd (false≢true (by before old settings planned.call false mid holds made).0)
  made-keep (planned ∷ later) before old outcome mid holds (inr (inr (e, is, made))) finished =
      let failed = subst (λ o. IsFinished step settings o mid finish (Ok tt) new) is finished in
      absurd (let never = failed.0 in cc)

pub runs-keep : {S E : Type 0} (step : Steps S E) (Holds : List Call → S → Type 0)
    → RunsKeep step Holds
runs-keep step Holds by settings old plan new holds run =
    made-keep step Holds by settings plan.finish new plan.calls [] old run.outcome run.mid holds
    run.made run.finished

module _ {H : Type 0} (goes : H → Call → Bool) (next : H → Call → H) where
  -- from the state after some matches on
  later-keep : (Holds : List Call → H → Type 0) → MatchesKeep goes next Holds
      → (before later : List Call) (old : H) → Holds before old
      → Holds (before ++ later) (fold_while goes next old later)
  later-keep Holds by before [] old holds =
      subst (λ calls. Holds calls old) (sym (append-nil before)) holds
  later-keep Holds by before (call ∷ later) old holds =
      let here = by before old call holds in
      rw here.0 (subst (λ calls. Holds calls (fold_while goes next (next old call) later))
      (append_assoc before (call ∷ []) later)
      (later-keep Holds by (before ++ call ∷ []) later (next old call) here.1))

  pub calls-keep : (Holds : List Call → H → Type 0) → CallsKeep goes next Holds
  calls-keep Holds by old calls holds = later-keep Holds by [] calls old holds

  pub hits-keep : (Holds : List KeptReport → H → Type 0) → HitsKeep goes next Holds
  hits-keep Holds by settings meaning bytes old holds =
      calls-keep (λ calls. Holds (map kept_of calls)) (λ before from call held.
      let here = by (map kept_of before) from call held in (
        here.0,
        subst (λ kept. Holds kept (next from call)) (sym (map-append kept_of before (call ∷ [])))
            here.1,
      )) old (hit_matches settings meaning bytes) holds
