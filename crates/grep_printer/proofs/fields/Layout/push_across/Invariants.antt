use Rattle.std.proofs.Common.{◌++◌}
use Rattle.grep_matcher.specs.Lines.{byte_of}
use Rattle.grep_searcher.specs.Lines.{lines}
use Rattle.grep_printer.proofs.PartTextLemmas.{IsCrossing}
use Rattle.grep_printer.proofs.PushLemmas.{HasPushed}
use Rattle.grep_printer.specs.PartTexts.{across_text}
use Rattle.grep_printer.specs.Reports.{line_kind}
use Rattle.grep_printer.proofs.fields.Layout.push_across.Given as goal

abbrev pub invariant-loop-line : goal.invariant-loop-line
invariant-loop-line l =
    HasPushed l.fn.text l.text (λ text. IsCrossing l.fn.self (line_kind l.fn.report.kind) l.fn.report.offset l.fn.report.bytes.now
    (l.fn.text.text ++ across_text l.fn.self (line_kind l.fn.report.kind) l.fn.report.offset l.fn.report.bytes.now l.fn.report.number 0
    (lines (byte_of l.fn.self.terminator) l.fn.report.bytes.now) l.fn.parts)
    text l.number l.start l.line-iterator l.rest)
