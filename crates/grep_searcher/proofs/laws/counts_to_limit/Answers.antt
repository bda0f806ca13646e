use Rattle.grep_searcher.proofs.ByteCountLemmas.{counts-to_limit}
use Rattle.grep_searcher.proofs.laws.counts_to_limit.Goals as goal

pub returns : goal.returns
returns c = counts-to_limit
