use Rattle.grep_searcher.proofs.MatcherFailureLemmas.{slices-fail_for}
use Rattle.grep_searcher.proofs.laws.slices_fail_for.Goals as goal

pub returns : goal.returns
returns g c = λ matcher. slices-fail_for g.S.Sink.step _ _
