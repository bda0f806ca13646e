use Rattle.std.proofs.Common.{rules}
use Rattle.grep_walk.proofs.config.Config.breaks_before.Goals as goal

pub returns-then-walk-index : goal.returns-then-walk-index
returns-then-walk-index c = search rules

pub returns-else-walk-index : goal.returns-else-walk-index
returns-else-walk-index c = search rules
