use Rattle.grep_definitions.proofs.MatchCountLemmas.{numbers-no_bytes, numbers-no_count}
use Rattle.grep_definitions.proofs.laws.numbers_change_no_count.Goals as goal

pub returns-clause-count : goal.returns-clause-count
returns-clause-count c = numbers-no_count

pub returns-clause-bytes : goal.returns-clause-bytes
returns-clause-bytes c = numbers-no_bytes
