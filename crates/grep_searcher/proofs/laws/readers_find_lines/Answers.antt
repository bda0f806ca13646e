use Rattle.grep_searcher.proofs.BoundedReadLemmas.{readers-find_lines}
use Rattle.grep_searcher.proofs.laws.readers_find_lines.Goals as goal

pub returns : goal.returns
returns g c = λ matcher. readers-find_lines _ _ _ _
