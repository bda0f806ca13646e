use Rattle.grep_searcher.proofs.FirstByteLemmas.{first_bytes-are_found, first_bytes-match_by_line}
use Rattle.grep_searcher.proofs.laws.first_bytes_match_by_line.Goals as goal

pub returns-clause-found : goal.returns-clause-found
returns-clause-found c = first_bytes-are_found

pub returns-clause-by_line : goal.returns-clause-by_line
returns-clause-by_line c = first_bytes-match_by_line
