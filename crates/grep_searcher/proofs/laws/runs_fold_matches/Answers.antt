use Rattle.grep_searcher.proofs.SinkFoldLemmas.{runs-fold_matches}
use Rattle.grep_searcher.proofs.laws.runs_fold_matches.Goals as goal

pub returns : goal.returns
returns g c = runs-fold_matches g.S.Sink.step
