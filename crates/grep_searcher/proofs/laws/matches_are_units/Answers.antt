use Rattle.grep_searcher.proofs.UnitCallLemmas.{first_match-is_first_unit, matches-are_units}
use Rattle.grep_searcher.proofs.UnitCallLemmas.{units-are_counted}
use Rattle.grep_searcher.proofs.laws.matches_are_units.Goals as goal

pub returns-clause-all : goal.returns-clause-all
returns-clause-all c = matches-are_units

pub returns-clause-counted : goal.returns-clause-counted
returns-clause-counted c = units-are_counted

pub returns-clause-first : goal.returns-clause-first
returns-clause-first c = first_match-is_first_unit
