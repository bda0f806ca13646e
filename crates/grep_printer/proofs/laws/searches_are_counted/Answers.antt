use Rattle.grep_printer.proofs.CountedLemmas.{stats-count}
use Rattle.grep_printer.proofs.laws.searches_are_counted.Goals as goal

pub returns : goal.returns
returns g c = stats-count g.F.Format.rules
