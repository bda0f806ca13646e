use Rattle.grep_searcher.proofs.BoundedReadLemmas.{ended_known_readers-stop, ended_readers-stop}
use Rattle.grep_searcher.proofs.laws.ended_readers_stop.Goals as goal

pub returns-clause-taken : goal.returns-clause-taken
returns-clause-taken g c = λ matcher.
    ended_readers-stop g.H.MatchHandler.goes g.H.MatchHandler.next g.H.MatchHandler.fails _ _ _ _

pub returns-clause-known : goal.returns-clause-known
returns-clause-known g c = λ matcher.
    ended_known_readers-stop g.H.MatchHandler.goes g.H.MatchHandler.next g.H.MatchHandler.fails
    _ _ _ _
