use Rattle.grep_searcher.proofs.SinkFoldLemmas.{reader_searches-fail}
use Rattle.grep_searcher.proofs.laws.reader_searches_fail.Goals as goal

pub returns : goal.returns
returns g c = λ matcher. reader_searches-fail g.S.Sink.step _ _ _ _
