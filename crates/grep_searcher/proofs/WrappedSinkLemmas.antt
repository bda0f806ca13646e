-- The calls of a sink that passes each on to another one that it holds.
use Rattle.std.proofs.Common.{◌≡◌, Bool, true, false, List, [], ◌∷◌, Result, Ok, Err, ap, inl, inr}
use Rattle.grep_definitions.specs.Plans.{AreMade, Call, NeverFails, Outcome, Planned, Settings}
use Rattle.grep_definitions.specs.MatchedLines.{AreTaken}
use Rattle.grep_definitions.specs.Plans.{Steps, all_true, failed}

-- steps of the one that is held are steps of the one that holds it
module _ {S T E : Type 0} (step : Steps S E) (outer : Steps T E) (holding : S → T)
    (passes : (old : S) (settings : Settings) (call : Call) (result : Result Bool E) (new : S)
    → step old settings call result new
    → outer (holding old) settings call result (holding new)) where
  made-passed : (settings : Settings) (calls : List Planned) (old : S) (outcome : Outcome E)
      (new : S) → AreMade step settings old calls outcome new
      → AreMade outer settings (holding old) calls outcome (holding new)
  made-passed settings [] old outcome new (all, same) = (all, ap holding same)
  made-passed settings (call ∷ later) old outcome new (inl (mid, goes, made)) =
      inl (
        holding mid,
        passes old settings call.call _ mid goes,
        made-passed settings later mid outcome new made,
      )
  made-passed settings (call ∷ later) old outcome new (inr (inl (is, stops))) =
      inr (inl (is, passes old settings call.call _ new stops))
  made-passed settings (call ∷ later) old outcome new (inr (inr (e, is, fails))) =
      inr (inr (e, is, passes old settings call.call _ new fails))

  pub taken-passed : (settings : Settings) (calls : List Planned) (old : S) (result : Result Bool E)
      (new : S) → AreTaken step settings old calls result new
      → AreTaken outer settings (holding old) calls result (holding new)
  taken-passed settings calls old (Ok true) new made =
      made-passed settings calls old all_true new made
  taken-passed settings calls old (Ok false) new same = ap holding same
  taken-passed settings calls old (Err e) new made =
      made-passed settings calls old (failed e) new made

  -- if the one that holds it never fails, it doesn't either
  pub never-passed : (may_call : S → Type 0) (may_call_outer : T → Type 0)
      → ((s : S) → may_call s → may_call_outer (holding s))
      → NeverFails outer may_call_outer → NeverFails step may_call
  never-passed may_call may_call_outer may never old settings call e new allowed fails =
      never (holding old) settings call e (holding new) (may old allowed)
      (passes old settings call (Err e) new fails)
