use Rattle.grep_searcher.proofs.PassedLineLemmas.{lines-are_passed, passed_lines-hit}
use Rattle.grep_searcher.proofs.laws.lines_are_passed.Goals as goal

pub returns : goal.returns
returns c = record { lines = lines-are_passed; hits = passed_lines-hit }
