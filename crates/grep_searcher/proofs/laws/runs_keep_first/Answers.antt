use Rattle.grep_searcher.proofs.BoundedReadLemmas.{first-ends}
use Rattle.grep_searcher.proofs.MatchHandlerLemmas.{runs-keep_first, runs-keep_first_lines}
use Rattle.grep_searcher.proofs.laws.runs_keep_first.Goals as goal

pub returns-clause-all : goal.returns-clause-all
returns-clause-all g c = runs-keep_first _

pub returns-clause-lines : goal.returns-clause-lines
returns-clause-lines g c = runs-keep_first_lines _

pub returns-clause-ends : goal.returns-clause-ends
returns-clause-ends g c = first-ends
