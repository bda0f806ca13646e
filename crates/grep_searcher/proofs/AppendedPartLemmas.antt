-- Sinks and handlers that append something of each call to what they keep.
use Rattle.std.proofs.Common.{◌≡◌, Bool, true, false, List, [], ◌∷◌, ◌++◌, refl, sym, ap, subst}
use Rattle.std.proofs.Common.{◌∙◌, inl, inr, append_assoc}
use Rattle.std.proofs.lemmas.Bool.{false≢true}
use Rattle.std.proofs.lemmas.List.{append-nil}
use Rattle.std.proofs.lemmas.List.Folds.{flat_map-map}
use Rattle.std.specs.Prelude.{Ok}
use Rattle.std.specs.List.{flat_map}
use Rattle.grep_definitions.specs.Plans.{AreMade, Call, Finish, finishes, IsFinished, Outcome}
use Rattle.grep_definitions.specs.Plans.{Planned, Steps, Settings}
use Rattle.grep_definitions.specs.SearchLaws.{calls_of, match_calls, match_of, matched_lines}
use Rattle.grep_definitions.proofs.MatchCallLemmas.{matches-are_matched_lines}
use Rattle.grep_searcher.specs.AppendedParts.{AppendsPartsByState, CallsAppend, RunsAppend}
use Rattle.grep_searcher.specs.AppendedParts.{RunsAppendPartsByState}
use Rattle.grep_searcher.specs.AppendedParts.{RunsAppendByState, RunsAppendLines}
use Rattle.grep_searcher.specs.AppendedParts.{RunsAppendMatches}
use Rattle.grep_searcher.proofs.MatchHandlerLemmas.{runs-handle}

-- parts that are the same of each call, joined
pub flat_map-same : {X : Type 0} (f h : Call → List X) → ((call : Call) → f call ≡ h call)
    → (calls : List Call) → flat_map f calls ≡ flat_map h calls
flat_map-same f h same [] = refl
flat_map-same f h same (call ∷ later) = rw (same call, flat_map-same f h same later) refl

module _ {S E : Type 0} (step : Steps S E) (X : Type 0) where
  module _ (kept : S → List X) (part : S → Call → List X)
      (by : AppendsPartsByState step X kept part) (settings : Settings) (finish : Finish) (new : S)
    where
      abbrev last : Call
      last = finishes finish.count finish.binary

      made-append : (calls : List Planned) (old : S) (outcome : Outcome E) (mid : S)
          → AreMade step settings old calls outcome mid
          → IsFinished step settings outcome mid finish (Ok tt) new
          → kept new ≡ kept old ++ flat_map (part old) (calls_of calls ++ last ∷ [])
      made-append [] old outcome mid (is, same) finished =
          let made = subst (λ o. IsFinished step settings o mid finish (Ok tt) new) is finished in
          (by mid settings last true new made).1 ∙ ap (λ s. kept s ++ part s last) same
          ∙ ap (λ xs. kept old ++ xs) (sym (append-nil (part old last)))
      made-append (planned ∷ later) old outcome mid (inl (between, made, rest)) finished =
          let here = by old settings planned.call true between made in
          let calls = calls_of later ++ last ∷ [] in
          made-append later between outcome mid rest finished
          ∙ ap (λ parts. kept between ++ parts)
          (flat_map-same (part between) (part old) here.2 calls)
          ∙ ap (λ k. k ++ flat_map (part old) calls) here.1
          ∙ append_assoc (kept old) (part old planned.call) (flat_map (part old) calls)
      made-append (planned ∷ later) old outcome mid (inr (inl (is, made))) finished =
          absurd (false≢true (by old settings planned.call false mid made).0)
      made-append (planned ∷ later) old outcome mid (inr (inr (e, is, made))) finished =
          let failed = subst (λ o. IsFinished step settings o mid finish (Ok tt) new) is finished in
          absurd (let never = failed.0 in cc)

  pub runs-append_parts_by_state : RunsAppendPartsByState step X
  runs-append_parts_by_state kept part by settings old plan new run =
      made-append kept part by settings plan.finish new plan.calls old run.outcome run.mid run.made
      run.finished

  pub runs-append : RunsAppend step X
  runs-append kept part by settings old plan new run =
      runs-append_parts_by_state kept (λ _. part) (λ from at call b after made.
      let here = by from at call b after made in (here.0, here.1, λ other. refl)) settings old plan
      new run

module _ {H E : Type 0} (goes : H → Call → Bool) (next : H → Call → H) (fails : H → Call → E → H
    → Type 0)
    (X : Type 0) where
  pub calls-append : CallsAppend goes next fails X
  calls-append kept part by old [] = sym (append-nil (kept old))
  calls-append kept part by old (call ∷ later) =
      let here = by old call in
      rw here.0 (calls-append kept part by (next old call) later
      ∙ ap (λ parts. kept (next old call) ++ parts)
      (flat_map-same (part (next old call)) (part old) here.2 later)
      ∙ ap (λ k. k ++ flat_map (part old) later) here.1
      ∙ append_assoc (kept old) (part old call) (flat_map (part old) later))

  pub runs-append_by_state : RunsAppendByState goes next fails X
  runs-append_by_state kept part by settings old plan new run =
      ap kept (runs-handle goes next fails settings old plan new run)
      ∙ calls-append kept part by old (match_calls plan.calls)

  pub runs-append_matches : RunsAppendMatches goes next fails X
  runs-append_matches kept part by settings old plan new run =
      runs-append_by_state kept (λ _. part) (λ from call.
      let here = by from call in (here.0, here.1, λ other. refl)) settings old plan new run

  pub runs-append_lines : RunsAppendLines goes next fails X
  runs-append_lines kept part by settings meaning bytes by_line old new run =
      runs-append_matches kept part by settings old _ new run
      ∙ ap (λ calls. kept old ++ flat_map part calls)
      (matches-are_matched_lines settings meaning bytes by_line) ∙ ap (λ parts. kept old ++ parts)
      (flat_map-map part (match_of settings bytes) (matched_lines settings meaning bytes))
