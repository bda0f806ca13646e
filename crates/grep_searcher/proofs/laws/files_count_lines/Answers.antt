use Rattle.grep_searcher.proofs.LineCountLemmas.{readers-count_lines}
use Rattle.grep_searcher.proofs.laws.files_count_lines.Goals as goal

pub returns : goal.returns
returns g c = λ matcher. readers-count_lines _ _ _ _
