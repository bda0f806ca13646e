use Rattle.grep_searcher.proofs.AppendedItemLemmas.{runs-append_items}
use Rattle.grep_searcher.proofs.laws.runs_append_items.Goals as goal

pub returns : goal.returns
returns g c = runs-append_items g.S.Sink.step _
