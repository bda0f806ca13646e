-- Any calls may be made to a sink of which a clause sees nothing.
use Rattle.std.proofs.Common.{◌≡◌, List, [], ◌∷◌, Result, Bool, Ok, false, inl, refl, true}
use Rattle.grep_definitions.specs.MatchedLines.{AreTaken}
use Rattle.grep_definitions.specs.Plans.{AreMade, Call, Planned, Settings, Steps, all_true}

-- such a sink's step
abbrev any_step : (E : Type 0) → Steps (Unit {0}) E
any_step E old settings call result new = Unit {0}

made-any : (E : Type 0) (k : Settings) (calls : List Planned)
    → AreMade (any_step E) k tt calls all_true tt
made-any E k [] = (refl, refl)
made-any E k (call ∷ later) = inl (tt, tt, made-any E k later)

-- it takes lines, or doesn't
pub taken-any : (E : Type 0) (k : Settings) (calls : List Planned) (takes : Bool)
    → AreTaken (any_step E) k tt calls (Ok takes) tt
taken-any E k calls true = made-any E k calls
taken-any E k calls false = refl
