use Rattle.grep_definitions.proofs.PlannedLawLemmas.{at_most-limit}
use Rattle.grep_definitions.proofs.laws.at_most_limit.Goals as goal

pub returns : goal.returns
returns c = at_most-limit
