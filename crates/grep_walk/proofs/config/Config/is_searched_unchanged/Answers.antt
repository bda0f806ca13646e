use Rattle.std.proofs.Common.{rules}
use Rattle.grep_definitions.specs.SliceSearches.{is_searched_unchanged}
use Rattle.grep_walk.proofs.config.Config.is_searched_unchanged.Goals as goal

pub returns-then-is_some : goal.returns-then-is_some
unfolding is_searched_unchanged
returns-then-is_some c = search rules

pub returns-then-not-self : goal.returns-then-not-self
unfolding is_searched_unchanged
returns-then-not-self c = search rules

pub returns-else-not-self : goal.returns-else-not-self
unfolding is_searched_unchanged
returns-else-not-self c = search rules
