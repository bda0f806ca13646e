use Rattle.std.proofs.Common.{rules}
use Rattle.grep_walk.proofs.config.Config.breaks_before_match.Goals as goal

pub returns-then-self-gt0 : goal.returns-then-self-gt0
returns-then-self-gt0 c = search rules

pub returns-else-self-gt0 : goal.returns-else-self-gt0
returns-else-self-gt0 c = search rules
