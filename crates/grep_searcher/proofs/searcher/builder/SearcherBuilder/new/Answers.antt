use Rattle.std.proofs.Common.{rules}
use Rattle.grep_searcher.proofs.searcher.builder.SearcherBuilder.new.Goals as goal

pub returns : goal.returns
returns c = search rules
