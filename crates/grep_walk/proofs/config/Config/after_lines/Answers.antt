use Rattle.std.proofs.Common.{arith}
use Rattle.grep_lines.proofs.LineStepLemmas.{lines-at-most}
use Rattle.grep_walk.proofs.config.Config.after_lines.Goals as goal

pub overflow_add-next : goal.overflow_add-next
overflow_add-next c = omega (arith, lines-at-most c.as_byte.result c.args.lines.now)
