use Rattle.grep_searcher.specs.Lines.{lines}
use Rattle.grep_printer.proofs.BareWriteLemmas.{AreWritten}
use Rattle.grep_printer.proofs.bare.write_lines.Given as goal

abbrev pub invariant-loop-line : goal.invariant-loop-line
invariant-loop-line g l = AreWritten g.W.Output.step l.fn.terminator l.fn.writer l.writer l.fn.number
    (lines l.fn.terminator l.fn.bytes) l.number l.line-iterator
