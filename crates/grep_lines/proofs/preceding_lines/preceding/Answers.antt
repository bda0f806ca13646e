use Rattle.std.proofs.Common.{arith}
use Rattle.grep_lines.proofs.LinePositionLemmas.{last_line}
use Rattle.grep_lines.proofs.preceding_lines.preceding.Goals as goal

pub returns-clause-line : goal.returns-clause-line
returns-clause-line c = λ last is.
    let ends = last_line c.args.terminator c.args.bytes.now last is in
    c.preceding_by_pos.ensures.line last (omega arith) ends.0 (omega arith)
