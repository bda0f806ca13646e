use Rattle.grep_printer.proofs.LinePlaceLemmas.{lines-placed, plain-lines-numbered}
use Rattle.grep_printer.proofs.laws.lines_are_placed.Goals as goal

pub returns-clause-placed : goal.returns-clause-placed
returns-clause-placed c = lines-placed

pub returns-clause-plain : goal.returns-clause-plain
returns-clause-plain c = plain-lines-numbered
