use Rattle.grep_searcher.proofs.LineCountLemmas.{runs-count_lines}
use Rattle.grep_searcher.proofs.laws.runs_count_lines.Goals as goal

pub returns : goal.returns
returns g c = runs-count_lines _
