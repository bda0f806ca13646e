use Rattle.grep_searcher.proofs.SinkFoldLemmas.{searches-fail}
use Rattle.grep_searcher.proofs.laws.searches_fail.Goals as goal

pub returns : goal.returns
returns g c = λ matcher. searches-fail g.S.Sink.step _ _
