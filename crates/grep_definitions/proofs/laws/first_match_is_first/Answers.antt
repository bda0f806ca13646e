use Rattle.grep_definitions.proofs.MatchCallLemmas.{first_match-is_first}
use Rattle.grep_definitions.proofs.laws.first_match_is_first.Goals as goal

pub returns : goal.returns
returns c = first_match-is_first
