use Rattle.grep_searcher.proofs.KeyCountLemmas.{runs-count_hit_keys, runs-count_keys}
use Rattle.grep_searcher.proofs.laws.runs_count_keys.Goals as goal

pub returns-clause-all : goal.returns-clause-all
returns-clause-all g c =
    runs-count_keys g.H.MatchHandler.goes g.H.MatchHandler.next g.H.MatchHandler.fails

pub returns-clause-hits : goal.returns-clause-hits
returns-clause-hits g c =
    runs-count_hit_keys g.H.MatchHandler.goes g.H.MatchHandler.next g.H.MatchHandler.fails
