use Rattle.grep_searcher.proofs.HandledLineLemmas.{lines-reach}
use Rattle.grep_searcher.proofs.MatchHandlerLemmas.{runs-fail_at, runs-fit, runs-handle}
use Rattle.grep_searcher.proofs.SinkFoldLemmas.{calls-reach}
use Rattle.grep_searcher.proofs.laws.runs_handle_matches.Goals as goal

pub returns-clause-handled : goal.returns-clause-handled
returns-clause-handled g c = runs-handle g.H.MatchHandler.goes g.H.MatchHandler.next
    g.H.MatchHandler.fails

pub returns-clause-failed : goal.returns-clause-failed
returns-clause-failed g c = runs-fail_at g.H.MatchHandler.goes g.H.MatchHandler.next
    g.H.MatchHandler.fails

pub returns-clause-fits : goal.returns-clause-fits
returns-clause-fits g c = runs-fit g.H.MatchHandler.goes g.H.MatchHandler.next
    g.H.MatchHandler.fails

pub returns-clause-reached : goal.returns-clause-reached
returns-clause-reached g c = calls-reach g.H.MatchHandler.goes g.H.MatchHandler.next

pub returns-clause-lines : goal.returns-clause-lines
returns-clause-lines g c = lines-reach g.H.MatchHandler.goes g.H.MatchHandler.next
