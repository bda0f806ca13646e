use Rattle.grep_searcher.proofs.SearchFailureLemmas.{slices-fail}
use Rattle.grep_searcher.proofs.laws.slices_fail.Goals as goal

pub returns : goal.returns
returns g c = λ matcher. slices-fail g.S.Sink.step _ _
