use Rattle.grep_searcher.specs.ClosureSinks.{IsWholeText}
use Rattle.grep_searcher.proofs.ClosureSinkLemmas.{closures-fail}
use Rattle.grep_searcher.proofs.laws.bytes_closures_fail.Goals as goal

pub returns : goal.returns
returns g c = closures-fail (goal.F-step g) IsWholeText _
