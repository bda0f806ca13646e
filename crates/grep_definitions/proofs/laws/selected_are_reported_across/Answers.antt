use Rattle.grep_definitions.proofs.PlannedLawLemmas.{selected-reported}
use Rattle.grep_definitions.proofs.laws.selected_are_reported_across.Goals as goal

pub returns : goal.returns
returns c = selected-reported
