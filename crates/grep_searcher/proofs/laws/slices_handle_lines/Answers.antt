use Rattle.grep_searcher.proofs.HandledLineLemmas.{slices-handle_lines}
use Rattle.grep_searcher.proofs.laws.slices_handle_lines.Goals as goal

pub returns : goal.returns
returns g c = λ matcher.
    slices-handle_lines g.H.MatchHandler.goes g.H.MatchHandler.next g.H.MatchHandler.fails _ _
