use Rattle.grep_lines.proofs.LineStepLemmas.{lines-numbered}
use Rattle.grep_lines.proofs.laws.lines_are_numbered.Goals as goal

pub returns : goal.returns
returns c = lines-numbered
