use Rattle.grep_searcher.proofs.PassedCallLemmas.{closures-append, closures-append_by_state}
use Rattle.grep_searcher.proofs.PassedCallLemmas.{closures-are_passed}
use Rattle.grep_searcher.proofs.PassedCallLemmas.{closures-fail_passed, closures-keep_passed}
use Rattle.grep_searcher.proofs.laws.calls_are_passed.Goals as goal

pub returns-clause-passed : goal.returns-clause-passed
returns-clause-passed g c = closures-are_passed (goal.F-step g) _

pub returns-clause-appended : goal.returns-clause-appended
returns-clause-appended g c = closures-append (goal.F-step g) _ _

pub returns-clause-kept : goal.returns-clause-kept
returns-clause-kept g c = closures-keep_passed (goal.F-step g) _

pub returns-clause-failed : goal.returns-clause-failed
returns-clause-failed g c = closures-fail_passed (goal.F-step g) _

pub returns-clause-by_state : goal.returns-clause-by_state
returns-clause-by_state g c = closures-append_by_state (goal.F-step g) _ _
