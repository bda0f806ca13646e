use Rattle.std.proofs.Common.{rules, ◌∙◌, ◌<◌, sym, arith, length}
use Rattle.grep_matcher.proofs.LineLemmas.{lines-closed, lines-unclosed}
use Rattle.grep_lines.proofs.counts.count_ended.Goals as goal

pub returns-then-bytes-terminator : goal.returns-then-bytes-terminator
returns-then-bytes-terminator c =
    c.requires ∙ sym (lines-closed c.args.terminator c.args.bytes.now
    (λ some. c.if-bytes-terminator.true))

pub returns-else-bytes-terminator : goal.returns-else-bytes-terminator
returns-else-bytes-terminator c =
    let some : 0 < length c.args.bytes.now = search rules in
    omega (
      arith,
      c.requires,
      lines-unclosed c.args.terminator c.args.bytes.now some c.if-bytes-terminator.false,
    )
