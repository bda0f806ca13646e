use Rattle.grep_searcher.proofs.SearchFailureLemmas.{readers-fail}
use Rattle.grep_searcher.proofs.laws.files_fail.Goals as goal

pub returns : goal.returns
returns g c = λ matcher. readers-fail g.S.Sink.step _ _ _ _
