use Rattle.grep_searcher.proofs.KeptMatchLemmas.{runs-keep_bytes}
use Rattle.grep_searcher.proofs.laws.runs_keep_bytes.Goals as goal

pub returns : goal.returns
returns g c = runs-keep_bytes _
