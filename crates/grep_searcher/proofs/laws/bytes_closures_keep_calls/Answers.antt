use Rattle.grep_searcher.specs.ClosureSinks.{IsWholeText}
use Rattle.grep_searcher.proofs.ClosureSinkLemmas.{closures-keep}
use Rattle.grep_searcher.proofs.laws.bytes_closures_keep_calls.Goals as goal

pub returns : goal.returns
returns g c = closures-keep (goal.F-step g) IsWholeText (λ bytes. bytes) (λ _ _ h. h) _
