use Rattle.std.proofs.Common.{rules}
use Rattle.grep_walk.proofs.config.Config.refusal.Goals as goal

pub returns-then-eq : goal.returns-then-eq
returns-then-eq g c = search rules

pub returns-in-Some : goal.returns-in-Some
returns-in-Some g c = search rules

pub returns-in_default : goal.returns-in_default
returns-in_default g c = search rules
