use Rattle.grep_definitions.proofs.PlannedLawLemmas.{reports-ascend_across}
use Rattle.grep_definitions.proofs.laws.reports_ascend_across.Goals as goal

pub returns : goal.returns
returns c = reports-ascend_across
