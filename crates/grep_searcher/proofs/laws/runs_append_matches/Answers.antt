use Rattle.grep_searcher.proofs.AppendedPartLemmas.{calls-append, runs-append_by_state}
use Rattle.grep_searcher.proofs.AppendedPartLemmas.{runs-append_lines, runs-append_matches}
use Rattle.grep_searcher.proofs.laws.runs_append_matches.Goals as goal

pub returns-clause-all : goal.returns-clause-all
returns-clause-all g c =
    runs-append_matches g.H.MatchHandler.goes g.H.MatchHandler.next g.H.MatchHandler.fails _

pub returns-clause-lines : goal.returns-clause-lines
returns-clause-lines g c =
    runs-append_lines g.H.MatchHandler.goes g.H.MatchHandler.next g.H.MatchHandler.fails _

pub returns-clause-by_state : goal.returns-clause-by_state
returns-clause-by_state g c =
    runs-append_by_state g.H.MatchHandler.goes g.H.MatchHandler.next g.H.MatchHandler.fails _

pub returns-clause-calls : goal.returns-clause-calls
returns-clause-calls g c =
    calls-append g.H.MatchHandler.goes g.H.MatchHandler.next g.H.MatchHandler.fails _
