use Rattle.grep_searcher.proofs.KeptMostLemmas.{hits-keep_most}
use Rattle.grep_searcher.proofs.laws.hits_keep_most.Goals as goal

pub returns : goal.returns
returns g c = hits-keep_most g.H.MatchHandler.goes g.H.MatchHandler.next
