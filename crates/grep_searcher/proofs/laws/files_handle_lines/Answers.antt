use Rattle.grep_searcher.proofs.HandledLineLemmas.{known_readers-handle_lines}
use Rattle.grep_searcher.proofs.HandledLineLemmas.{readers-handle_lines}
use Rattle.grep_searcher.proofs.laws.files_handle_lines.Goals as goal

pub returns-clause-known : goal.returns-clause-known
returns-clause-known g c = λ matcher.
    known_readers-handle_lines g.H.MatchHandler.goes g.H.MatchHandler.next g.H.MatchHandler.fails
    _ _ _ _

pub returns-clause-taken : goal.returns-clause-taken
returns-clause-taken g c = λ matcher.
    readers-handle_lines g.H.MatchHandler.goes g.H.MatchHandler.next g.H.MatchHandler.fails _ _ _ _
