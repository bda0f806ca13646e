use Rattle.grep_matcher.proofs.LineLemmas.{lines-append}
use Rattle.grep_lines.proofs.laws.lines_append.Goals as goal

pub returns : goal.returns
returns c = lines-append
