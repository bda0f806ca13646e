use Rattle.grep_searcher.proofs.KeptFirstLemmas.{readers-keep_first}
use Rattle.grep_searcher.proofs.laws.readers_keep_first.Goals as goal

pub returns : goal.returns
returns g c = λ matcher. readers-keep_first _ _ _ _
