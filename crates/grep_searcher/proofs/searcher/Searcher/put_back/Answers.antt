use Rattle.std.proofs.Common.{rules}
use Rattle.grep_searcher.proofs.searcher.Searcher.put_back.Goals as goal

pub returns : goal.returns
returns g c = search rules
