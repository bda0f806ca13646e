use Rattle.grep_searcher.proofs.LineFilterLemmas.{all_lines-hit, every_line-hits, hits-are_lines}
use Rattle.grep_searcher.proofs.LineFilterLemmas.{lines-are_filtered, lines-are_listed}
use Rattle.grep_searcher.proofs.LineFilterLemmas.{predicates-are_filtered, predicates-are_lines}
use Rattle.grep_searcher.proofs.laws.lines_are_filtered.Goals as goal

pub returns-clause-matches : goal.returns-clause-matches
returns-clause-matches c = lines-are_filtered

pub returns-clause-lines : goal.returns-clause-lines
returns-clause-lines c = hits-are_lines

pub returns-clause-predicates : goal.returns-clause-predicates
returns-clause-predicates c = predicates-are_filtered

pub returns-clause-predicate_lines : goal.returns-clause-predicate_lines
returns-clause-predicate_lines c = predicates-are_lines

pub returns-clause-every_line : goal.returns-clause-every_line
returns-clause-every_line c = every_line-hits

pub returns-clause-all_lines : goal.returns-clause-all_lines
returns-clause-all_lines c = lines-are_listed

pub returns-clause-all_hit : goal.returns-clause-all_hit
returns-clause-all_hit c = all_lines-hit
