use Rattle.grep_definitions.proofs.PlannedLawLemmas.{reports-apart}
use Rattle.grep_definitions.proofs.laws.reports_are_apart_across.Goals as goal

pub returns : goal.returns
returns c = reports-apart
