use Rattle.grep_lines.proofs.LineStepLemmas.{lines-at-most}
use Rattle.grep_lines.proofs.laws.lines_are_few.Goals as goal

pub returns : goal.returns
returns c = lines-at-most
