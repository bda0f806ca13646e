use Rattle.grep_searcher.proofs.AppendedItemLemmas.{runs-append_hits}
use Rattle.grep_searcher.proofs.laws.runs_append_hits.Goals as goal

pub returns : goal.returns
returns g c = runs-append_hits g.S.Sink.step _
