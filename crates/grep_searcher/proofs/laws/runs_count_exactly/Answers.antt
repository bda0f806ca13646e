use Rattle.grep_searcher.proofs.CountedCallLemmas.{runs-count_exactly}
use Rattle.grep_searcher.proofs.laws.runs_count_exactly.Goals as goal

pub returns : goal.returns
returns g c = runs-count_exactly g.S.Sink.step
