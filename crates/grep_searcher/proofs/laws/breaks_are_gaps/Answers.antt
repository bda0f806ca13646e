use Rattle.grep_searcher.proofs.GapLemmas.{breaks-are_counted, breaks-are_few, breaks-are_gaps}
use Rattle.grep_searcher.proofs.laws.breaks_are_gaps.Goals as goal

pub returns : goal.returns
returns c = record { calls = breaks-are_gaps; counted = breaks-are_counted; few = breaks-are_few }
