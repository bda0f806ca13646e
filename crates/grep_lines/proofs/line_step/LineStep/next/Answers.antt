use Rattle.std.proofs.Common.{arith}
use Rattle.grep_lines.proofs.LineStepLemmas.{IsAt-start, all_passed, slice-first, IsLine-slice}
use Rattle.grep_lines.proofs.line_step.LineStep.next.Goals as goal

pub returns-then-self-clause-last : goal.returns-then-self-clause-last
returns-then-self-clause-last c =
    rw (← c.self.view_is) (λ i all here. all_passed _ c.args.bytes.now c.self.inside.start i
    (IsAt-start _ _ _ i here) (omega arith))

pub returns-clause-first : goal.returns-clause-first
returns-clause-first c =
    rw (← c.self.view_is) (slice-first _ c.args.bytes.now c.self.inside.start c.self.inside.end
    c.first_line_length.result c.first_line_length.ensures)

pub returns-clause-listed : goal.returns-clause-listed
returns-clause-listed c =
    rw (← c.self.view_is) (λ i all here.
    IsLine-slice _ c.args.bytes.now c.self.inside.start c.self.inside.end c.first_line_length.result
    i all c.first_line_length.ensures here)
