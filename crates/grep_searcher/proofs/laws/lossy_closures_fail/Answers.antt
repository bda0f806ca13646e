use Rattle.grep_searcher.specs.ClosureSinks.{IsLossyText}
use Rattle.grep_searcher.proofs.ClosureSinkLemmas.{closures-fail}
use Rattle.grep_searcher.proofs.laws.lossy_closures_fail.Goals as goal

pub returns : goal.returns
returns g c = closures-fail (goal.F-step g) IsLossyText _
