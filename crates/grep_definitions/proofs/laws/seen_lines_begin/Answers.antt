use Rattle.grep_definitions.proofs.PlannedLawLemmas.{seen_lines-begin_all}
use Rattle.grep_definitions.proofs.laws.seen_lines_begin.Goals as goal

pub returns : goal.returns
returns c = seen_lines-begin_all
