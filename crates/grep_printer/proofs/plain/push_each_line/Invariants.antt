use Rattle.std.proofs.Common.{◌++◌}
use Rattle.grep_matcher.specs.Lines.{lines}
use Rattle.grep_printer.proofs.PlainLineLemmas.{ArePushed}
use Rattle.grep_printer.proofs.PushLemmas.{HasPushed}
use Rattle.grep_printer.specs.LineTexts.{plain_lines}
use Rattle.grep_printer.proofs.plain.push_each_line.Given as goal

abbrev pub invariant-loop-line : goal.invariant-loop-line
invariant-loop-line l =
    HasPushed l.fn.text l.text (λ text. ArePushed l.fn.terminator l.fn.mark
    (l.fn.text.text ++ plain_lines l.fn.terminator l.fn.mark l.fn.number (lines l.fn.terminator l.fn.bytes))
    text l.number l.line-iterator)
