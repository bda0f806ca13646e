use Rattle.std.proofs.Common.{refl}
use Rattle.grep_searcher.proofs.searcher.builder.SearcherBuilder.encoding.Goals as goal

pub returns-clause-set : goal.returns-clause-set
returns-clause-set c = rw (← c.self.view_is, ← c.self-inside.view_is) refl
