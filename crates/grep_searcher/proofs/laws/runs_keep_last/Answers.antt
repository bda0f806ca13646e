use Rattle.grep_searcher.proofs.KeptMatchLemmas.{runs-keep_last}
use Rattle.grep_searcher.proofs.laws.runs_keep_last.Goals as goal

pub returns : goal.returns
returns g c = runs-keep_last _
