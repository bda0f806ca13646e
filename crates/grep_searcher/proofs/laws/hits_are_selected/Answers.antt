use Rattle.grep_searcher.proofs.HitLineLemmas.{hits-are_selected, hits-are_matched}
use Rattle.grep_searcher.proofs.HitLineLemmas.{hits-are_counted, hits-are_found, none-is_selected}
use Rattle.grep_searcher.proofs.HitLineLemmas.{predicates-are_counted}
use Rattle.grep_searcher.proofs.laws.hits_are_selected.Goals as goal

pub returns-clause-selected : goal.returns-clause-selected
returns-clause-selected c = hits-are_selected

pub returns-clause-matched : goal.returns-clause-matched
returns-clause-matched c = hits-are_matched

pub returns-clause-found : goal.returns-clause-found
returns-clause-found c = hits-are_found

pub returns-clause-unselected : goal.returns-clause-unselected
returns-clause-unselected c = none-is_selected

pub returns-clause-counted : goal.returns-clause-counted
returns-clause-counted c = hits-are_counted

pub returns-clause-predicates : goal.returns-clause-predicates
returns-clause-predicates c = predicates-are_counted
