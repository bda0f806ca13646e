use Rattle.grep_definitions.proofs.PlannedLawLemmas.{as-by_line}
use Rattle.grep_definitions.proofs.laws.reports_are_as_by_line.Goals as goal

pub returns : goal.returns
returns c = as-by_line
