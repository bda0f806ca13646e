use Rattle.std.specs.Str.Lossy.{utf8_lossy}
use Rattle.grep_searcher.specs.ClosureSinks.{IsLossyText}
use Rattle.grep_searcher.proofs.ClosureSinkLemmas.{closures-keep}
use Rattle.grep_searcher.proofs.laws.lossy_closures_keep_calls.Goals as goal

pub returns : goal.returns
returns g c = closures-keep (goal.F-step g) IsLossyText utf8_lossy (λ _ _ h. h) _
