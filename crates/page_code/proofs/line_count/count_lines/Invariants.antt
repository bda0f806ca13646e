use Rattle.std.proofs.Common.{◌≡◌, ◌+◌, length}
use Rattle.grep_matcher.specs.Lines.{lines}
use Rattle.page_code.proofs.line_count.count_lines.Given as goal

abbrev pub invariant-loop-line : goal.invariant-loop-line
invariant-loop-line l = l.total + length l._line-iterator ≡ length (lines 10 l.bytes)
