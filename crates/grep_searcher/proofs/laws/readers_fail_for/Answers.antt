use Rattle.grep_searcher.proofs.MatcherFailureLemmas.{readers-fail_for}
use Rattle.grep_searcher.proofs.laws.readers_fail_for.Goals as goal

pub returns : goal.returns
returns g c = λ matcher. readers-fail_for g.S.Sink.step _ _ _ _
