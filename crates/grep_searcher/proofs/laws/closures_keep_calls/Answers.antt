use Rattle.grep_searcher.specs.ClosureSinks.{IsUtf8Text}
use Rattle.grep_searcher.proofs.ClosureSinkLemmas.{closures-keep}
use Rattle.grep_searcher.proofs.laws.closures_keep_calls.Goals as goal

pub returns : goal.returns
returns g c = closures-keep (goal.F-step g) IsUtf8Text (λ bytes. bytes) (λ _ _ h. h.0) _
