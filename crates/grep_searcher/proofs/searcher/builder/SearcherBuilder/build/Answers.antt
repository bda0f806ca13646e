use Rattle.std.proofs.Common.{rules}
use Rattle.grep_searcher.proofs.searcher.builder.SearcherBuilder.build.Goals as goal

pub returns-clause-settings : goal.returns-clause-settings
returns-clause-settings g c = search rules

pub returns-clause-error : goal.returns-clause-error
returns-clause-error g c = search rules

pub of-requires : goal.of-requires
of-requires g c = search rules
