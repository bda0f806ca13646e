use Rattle.grep_searcher.proofs.AppendedItemLemmas.{runs-end}
use Rattle.grep_searcher.proofs.laws.runs_end.Goals as goal

pub returns : goal.returns
returns g c = runs-end g.S.Sink.step
