use Rattle.std.proofs.Common.{rules}
use Rattle.std.proofs.lemmas.Str.{utf8_lossy-IsUtf8}
use Rattle.grep_searcher.proofs.sinks.LossySink.matched.Goals as goal

pub returns-in-Ok-clause-step : goal.returns-in-Ok-clause-step
returns-in-Ok-clause-step g c = let lossy = utf8_lossy-IsUtf8 _ c.in-Ok.ensures.cases.1 in search
    (rules)
