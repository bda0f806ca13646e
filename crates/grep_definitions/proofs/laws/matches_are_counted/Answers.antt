use Rattle.grep_definitions.proofs.MatchCallLemmas.{matches-are_counted}
use Rattle.grep_definitions.proofs.laws.matches_are_counted.Goals as goal

pub returns : goal.returns
returns c = matches-are_counted
