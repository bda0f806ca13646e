use Rattle.grep_searcher.specs.ClosureSinks.{IsLossyText}
use Rattle.grep_searcher.proofs.ClosureSinkLemmas.{closures-are_called}
use Rattle.grep_searcher.proofs.laws.lossy_closures_are_called.Goals as goal

pub returns : goal.returns
returns g c = closures-are_called (goal.F-step g) IsLossyText _
