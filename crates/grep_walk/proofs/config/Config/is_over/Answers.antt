use Rattle.std.proofs.Common.{rules}
use Rattle.grep_walk.proofs.config.Config.is_over.Goals as goal

pub returns-then-not-chosen : goal.returns-then-not-chosen
returns-then-not-chosen c = search rules

pub returns-then-is_full : goal.returns-then-is_full
returns-then-is_full c = search rules

pub returns-else-is_full : goal.returns-else-is_full
returns-else-is_full c = search rules
