use Rattle.grep_searcher.proofs.UnitCallLemmas.{matches-are_within_count}
use Rattle.grep_searcher.proofs.laws.matches_are_within_count.Goals as goal

pub returns : goal.returns
returns c = matches-are_within_count
