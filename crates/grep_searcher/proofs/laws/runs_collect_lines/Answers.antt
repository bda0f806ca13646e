use Rattle.grep_searcher.proofs.MatchHandlerLemmas.{runs-collect, runs-collect_lines}
use Rattle.grep_searcher.proofs.MatchHandlerLemmas.{runs-collect_until}
use Rattle.grep_searcher.proofs.laws.runs_collect_lines.Goals as goal

pub returns-clause-all : goal.returns-clause-all
returns-clause-all g c = runs-collect _

pub returns-clause-lines : goal.returns-clause-lines
returns-clause-lines g c = runs-collect_lines _

pub returns-clause-failed : goal.returns-clause-failed
returns-clause-failed g c = runs-collect_until _
