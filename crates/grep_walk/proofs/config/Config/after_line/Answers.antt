use Rattle.std.proofs.Common.{rules}
use Rattle.grep_walk.proofs.config.Config.after_line.Goals as goal

pub returns-then-chosen-3 : goal.returns-then-chosen-3
returns-then-chosen-3 c = search rules

pub returns-else-chosen-3 : goal.returns-else-chosen-3
returns-else-chosen-3 c = search rules
