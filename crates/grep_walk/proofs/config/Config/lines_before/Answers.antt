use Rattle.std.proofs.Common.{rules}
use Rattle.grep_walk.proofs.config.Config.lines_before.Goals as goal

pub returns : goal.returns
returns c = search rules
