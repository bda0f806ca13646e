use Rattle.std.proofs.Common.{refl}
use Rattle.grep_searcher.proofs.searcher.Searcher.max_matches.Goals as goal

pub returns : goal.returns
returns g c = rw (← c.self.view_is, ← c.self-inside.view_is) refl
