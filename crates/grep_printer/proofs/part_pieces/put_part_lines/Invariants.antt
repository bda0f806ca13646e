use Rattle.std.proofs.Common.{length}
use Rattle.grep_printer.proofs.VimgrepLemmas.{IsPuttingLines}
use Rattle.grep_printer.specs.StandardTexts.{text_before}
use Rattle.grep_printer.proofs.part_pieces.put_part_lines.Given as goal

abbrev pub invariant-loop-part : goal.invariant-loop-part
invariant-loop-part g l =
    IsPuttingLines g.W.Output.step l.fn.layout l.fn.report (text_before l.fn.layout l.fn.before) l.fn.parts
    l.fn.out l.out l.passed l.position l.rest

abbrev pub decreases-loop-part : goal.decreases-loop-part
decreases-loop-part g l = length l.rest
