use Rattle.std.proofs.Common.{◌≡◌, ◌&&◌, Bool, false, ap, sym, ◌∙◌, rules, not}
use Rattle.grep_definitions.specs.Plans.{is_chosen, stops_next}
use Rattle.grep_definitions.proofs.LimitLemmas.{selected-unstopped}
use Rattle.grep_definitions.proofs.laws.inversion_complements.Goals as goal

pub returns : goal.returns
returns c = λ k meaning bytes i unlimited unstopped inside.
    let never : (some : Bool) → stops_next k some ≡ false = λ some. ap (λ b. b && some) unstopped in
    let inverts : is_chosen (record k { invert_match = not k.invert_match }) meaning bytes i
    ≡ not (is_chosen k meaning bytes i) = search rules in
    selected-unstopped (record k { invert_match = not k.invert_match }) meaning bytes never i
    ∙ (inverts ∙ ap not (sym (selected-unstopped k meaning bytes never i)))
