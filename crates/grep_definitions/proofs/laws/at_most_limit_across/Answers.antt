use Rattle.grep_definitions.proofs.PlannedLawLemmas.{at_most-limit_across}
use Rattle.grep_definitions.proofs.laws.at_most_limit_across.Goals as goal

pub returns : goal.returns
returns c = at_most-limit_across
