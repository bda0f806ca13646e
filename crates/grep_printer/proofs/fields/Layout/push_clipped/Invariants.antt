use Rattle.std.proofs.Common.{length}
use Rattle.grep_printer.proofs.PartTextLemmas.{IsWriting}
use Rattle.grep_printer.proofs.PushLemmas.{HasPushed}
use Rattle.grep_printer.specs.PartTexts.{clipped_text}
use Rattle.grep_printer.specs.Reports.{line_kind}
use Rattle.grep_printer.proofs.fields.Layout.push_clipped.Given as goal

abbrev pub invariant-loop-part : goal.invariant-loop-part
invariant-loop-part l =
    HasPushed l.fn.text l.text (λ text. IsWriting (clipped_text l.fn.self (line_kind l.fn.report.kind)
    l.fn.report.offset l.fn.report.bytes.now l.fn.number l.fn.span)
    (length l.fn.report.bytes.now) l.fn.text.text l.fn.parts text l.rest)

abbrev pub decreases-loop-part : goal.decreases-loop-part
decreases-loop-part l = length l.rest
