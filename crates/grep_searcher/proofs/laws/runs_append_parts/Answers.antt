use Rattle.grep_searcher.proofs.AppendedPartLemmas.{runs-append}
use Rattle.grep_searcher.proofs.laws.runs_append_parts.Goals as goal

pub returns : goal.returns
returns g c = runs-append g.S.Sink.step _
