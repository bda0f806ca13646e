use Rattle.grep_lines.proofs.LawLemmas.{AreLines-same}
use Rattle.grep_lines.proofs.laws.lines_are_determined.Goals as goal

pub returns : goal.returns
returns c = AreLines-same
