use Rattle.grep_matcher.proofs.LineLemmas.{AreLines-lines}
use Rattle.grep_lines.proofs.laws.lines_join.Goals as goal

pub returns : goal.returns
returns c = AreLines-lines
