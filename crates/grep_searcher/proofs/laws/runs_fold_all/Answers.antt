use Rattle.grep_searcher.proofs.SinkFoldLemmas.{runs-fold_all}
use Rattle.grep_searcher.proofs.laws.runs_fold_all.Goals as goal

pub returns : goal.returns
returns g c = runs-fold_all g.S.Sink.step
