use Rattle.grep_definitions.proofs.BinaryLawLemmas.{quit_reports-clear}
use Rattle.grep_definitions.proofs.laws.quit_reports_are_clear.Goals as goal

pub returns : goal.returns
returns c = quit_reports-clear
