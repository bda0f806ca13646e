use Rattle.grep_definitions.proofs.PlannedLawLemmas.{reports-ascend}
use Rattle.grep_definitions.proofs.laws.reports_ascend.Goals as goal

pub returns : goal.returns
returns c = reports-ascend
