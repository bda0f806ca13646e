use Rattle.grep_searcher.proofs.SinkFoldLemmas.{searches-run}
use Rattle.grep_searcher.proofs.laws.searches_run.Goals as goal

pub returns : goal.returns
returns g c = λ matcher. searches-run g.S.Sink.step _ _
