-- Calls that were made from an origin on, put together.
use Rattle.std.proofs.Common.{◌≡◌, List, ◌++◌, refl, sym, ◌∙◌, ap, subst, append_assoc}
use Rattle.grep_definitions.specs.Plans.{AreMade, Outcome, Planned, Steps, all_true, Settings}
use Rattle.grep_definitions.proofs.SinkRunLemmas.{AreMade-append, AreMade-ended}
use Rattle.grep_walk.specs.Origins.{AreMadeFrom, Origin, fresh}

module _ {S E : Type 0} (step : Steps S E) (k : Settings) where
  -- calls after calls that all returned true
  pub from-append : (first : Origin S) (front back : List Planned) (mid : S) (outcome : Outcome E)
      (new : S) → AreMadeFrom step k first front all_true mid → AreMade step k mid back outcome new
      → AreMadeFrom step k first (front ++ back) outcome new
  from-append first front back mid outcome new so_far made = record {
    later = so_far.later ++ back;
    all = ap (λ calls. calls ++ back) so_far.all ∙ append_assoc first.before so_far.later back;
    made = AreMade-append step k so_far.later back first.state mid outcome new so_far.made made;
  }

  -- what ended early says nothing of the calls after it
  pub from-ended : (first : Origin S) (front back : List Planned) (outcome : Outcome E) (new : S)
      → (outcome ≡ all_true → ⊥) → AreMadeFrom step k first front outcome new
      → AreMadeFrom step k first (front ++ back) outcome new
  from-ended first front back outcome new ended so_far = record {
    later = so_far.later ++ back;
    all = ap (λ calls. calls ++ back) so_far.all ∙ append_assoc first.before so_far.later back;
    made = AreMade-ended step k so_far.later back first.state outcome new ended so_far.made;
  }

  -- from a sink that had no call, all of them were made
  pub from-fresh : (state : S) (calls : List Planned) (outcome : Outcome E) (new : S)
      → AreMade step k state calls outcome new → AreMadeFrom step k (fresh state) calls outcome new
  from-fresh state calls outcome new made = record { later = calls; all = refl; made = made }

  pub fresh-made : (state : S) (calls : List Planned) (outcome : Outcome E) (new : S)
      → AreMadeFrom step k (fresh state) calls outcome new → AreMade step k state calls outcome new
  fresh-made state calls outcome new so_far =
      subst (λ cs. AreMade step k state cs outcome new) (sym so_far.all) so_far.made
