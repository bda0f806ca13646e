use Rattle.grep_definitions.proofs.BinaryLawLemmas.{counted_reports-clear, seen_lines-clear}
use Rattle.grep_definitions.proofs.laws.counted_reports_are_clear.Goals as goal

pub returns-clause-first : goal.returns-clause-first
returns-clause-first c = counted_reports-clear

pub returns-clause-seen : goal.returns-clause-seen
returns-clause-seen c = seen_lines-clear
