use Rattle.std.proofs.Common.{rules}
use Rattle.grep_searcher.proofs.searcher.builder.SearcherBuilderClone.clone.Goals as goal

pub returns : goal.returns
returns c = search rules
