use Rattle.grep_definitions.proofs.PlannedLawLemmas.{first_lines-begin}
use Rattle.grep_definitions.proofs.laws.first_lines_begin.Goals as goal

pub returns : goal.returns
returns c = first_lines-begin
