use Rattle.grep_definitions.proofs.MatchCallLemmas.{matches-are_matched_lines}
use Rattle.grep_definitions.proofs.laws.matches_are_matched_lines.Goals as goal

pub returns : goal.returns
returns c = matches-are_matched_lines
