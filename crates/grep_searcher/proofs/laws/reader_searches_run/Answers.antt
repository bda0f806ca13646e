use Rattle.grep_searcher.proofs.SinkFoldLemmas.{reader_searches-run}
use Rattle.grep_searcher.proofs.laws.reader_searches_run.Goals as goal

pub returns : goal.returns
returns g c = λ matcher. reader_searches-run g.S.Sink.step _ _ _ _
