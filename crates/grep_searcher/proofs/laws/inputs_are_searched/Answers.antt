use Rattle.grep_definitions.proofs.SeenSearchLemmas.{input-search}
use Rattle.grep_searcher.proofs.laws.inputs_are_searched.Goals as goal

pub returns : goal.returns
returns g c = λ matcher state look reader old result reader' new read bytes input.
    input-search _ _ _ state look read bytes input
