use Rattle.grep_regex.specs.GroupStarts.{groups-are_of_first_match}
use Rattle.grep_regex.proofs.laws.groups_are_of_first_match.Goals as goal

pub returns : goal.returns
returns c = groups-are_of_first_match
