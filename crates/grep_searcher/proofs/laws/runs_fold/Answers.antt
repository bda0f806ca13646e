use Rattle.grep_searcher.proofs.SinkFoldLemmas.{runs-fold}
use Rattle.grep_searcher.proofs.laws.runs_fold.Goals as goal

pub returns : goal.returns
returns g c = runs-fold g.S.Sink.step
