use Rattle.grep_searcher.proofs.CountSinkLemmas.{runs-count, runs-count_all}
use Rattle.grep_searcher.proofs.laws.runs_count_matches.Goals as goal

pub returns-clause-all : goal.returns-clause-all
returns-clause-all g c = runs-count_all _

pub returns-clause-added : goal.returns-clause-added
returns-clause-added g c = runs-count _
