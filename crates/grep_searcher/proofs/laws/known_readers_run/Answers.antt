use Rattle.grep_searcher.proofs.SinkFoldLemmas.{known_readers-run}
use Rattle.grep_searcher.proofs.laws.known_readers_run.Goals as goal

pub returns : goal.returns
returns g c = λ matcher. known_readers-run g.S.Sink.step _ _ _ _
