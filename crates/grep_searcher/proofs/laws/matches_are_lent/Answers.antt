use Rattle.grep_searcher.proofs.LentMatchLemmas.{closures-append_by_state, closures-append_matches}
use Rattle.grep_searcher.proofs.LentMatchLemmas.{closures-are_lent}
use Rattle.grep_searcher.proofs.LentMatchLemmas.{closures-fail_lent, closures-keep_matches}
use Rattle.grep_searcher.proofs.laws.matches_are_lent.Goals as goal

pub returns-clause-lent : goal.returns-clause-lent
returns-clause-lent g c = closures-are_lent (goal.F-step g) _

pub returns-clause-appended : goal.returns-clause-appended
returns-clause-appended g c = closures-append_matches (goal.F-step g) _ _

pub returns-clause-by_state : goal.returns-clause-by_state
returns-clause-by_state g c = closures-append_by_state (goal.F-step g) _ _

pub returns-clause-kept : goal.returns-clause-kept
returns-clause-kept g c = closures-keep_matches (goal.F-step g) _

pub returns-clause-failed : goal.returns-clause-failed
returns-clause-failed g c = closures-fail_lent (goal.F-step g) _
