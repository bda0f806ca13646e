use Rattle.grep_searcher.proofs.LineCountLemmas.{slices-count_lines}
use Rattle.grep_searcher.proofs.laws.slices_count_lines.Goals as goal

pub returns : goal.returns
returns g c = λ matcher. slices-count_lines _ _
