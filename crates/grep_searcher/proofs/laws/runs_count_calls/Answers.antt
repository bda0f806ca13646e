use Rattle.grep_searcher.proofs.CountedCallLemmas.{runs-count_calls}
use Rattle.grep_searcher.proofs.laws.runs_count_calls.Goals as goal

pub returns : goal.returns
returns g c = runs-count_calls g.S.Sink.step
