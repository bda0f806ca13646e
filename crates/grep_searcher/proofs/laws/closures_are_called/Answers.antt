use Rattle.grep_searcher.specs.ClosureSinks.{IsUtf8Text}
use Rattle.grep_searcher.proofs.ClosureSinkLemmas.{closures-are_called}
use Rattle.grep_searcher.proofs.laws.closures_are_called.Goals as goal

pub returns : goal.returns
returns g c = closures-are_called (goal.F-step g) IsUtf8Text _
