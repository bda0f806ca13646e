use Rattle.grep_searcher.proofs.LineFilterLemmas.{matched-lines_hit, matched-lines_match}
use Rattle.grep_searcher.proofs.laws.matched_lines_hit.Goals as goal

pub returns-clause-hit : goal.returns-clause-hit
returns-clause-hit c = matched-lines_hit

pub returns-clause-matching : goal.returns-clause-matching
returns-clause-matching c = matched-lines_match
