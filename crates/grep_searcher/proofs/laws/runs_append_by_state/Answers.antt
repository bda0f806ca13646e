use Rattle.grep_searcher.proofs.AppendedPartLemmas.{runs-append_parts_by_state}
use Rattle.grep_searcher.proofs.laws.runs_append_by_state.Goals as goal

pub returns : goal.returns
returns g c = runs-append_parts_by_state g.S.Sink.step _
