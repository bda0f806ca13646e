use Rattle.grep_searcher.proofs.MatchHandlerLemmas.{runs-find_across, runs-find_selected}
use Rattle.grep_searcher.proofs.laws.runs_find_selected.Goals as goal

pub returns-clause-lines : goal.returns-clause-lines
returns-clause-lines g c = runs-find_selected _

pub returns-clause-across : goal.returns-clause-across
returns-clause-across g c = runs-find_across _
