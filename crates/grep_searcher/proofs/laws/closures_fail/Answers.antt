use Rattle.grep_searcher.specs.ClosureSinks.{IsUtf8Text}
use Rattle.grep_searcher.proofs.ClosureSinkLemmas.{closures-fail}
use Rattle.grep_searcher.proofs.laws.closures_fail.Goals as goal

pub returns : goal.returns
returns g c = closures-fail (goal.F-step g) IsUtf8Text _
