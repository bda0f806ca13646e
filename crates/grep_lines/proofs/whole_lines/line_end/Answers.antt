use Rattle.std.proofs.Common.{◌∙◌, arith}
use Rattle.std.proofs.lemmas.List.{take_rest}
use Rattle.grep_lines.proofs.LinePositionLemmas.{end-first, end-last}
use Rattle.grep_lines.proofs.whole_lines.line_end.Goals as goal

pub returns-then-position-bytes-clause-end : goal.returns-then-position-bytes-clause-end
returns-then-position-bytes-clause-end c =
    c.if-position-bytes.true ∙ end-last c.args.terminator c.args.bytes.now c.args.position c.requires
    (λ i low high. absurd (omega (arith, low, high, c.if-position-bytes.true)))

pub returns-clause-end : goal.returns-clause-end
returns-clause-end c =
    end-first c.args.terminator c.args.bytes.now c.args.position c.first_line_length.result c.requires
    (rw (take_rest c.args.bytes.now c.args.position) at c.first_line_length.ensures)
