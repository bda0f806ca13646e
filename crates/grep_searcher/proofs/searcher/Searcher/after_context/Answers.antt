use Rattle.std.proofs.Common.{refl}
use Rattle.grep_searcher.proofs.searcher.Searcher.after_context.Goals as goal

pub returns-clause-value : goal.returns-clause-value
returns-clause-value g c = rw (← c.self.view_is, ← c.self-inside.view_is) refl
