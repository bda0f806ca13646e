use Rattle.std.proofs.Common.{◌++◌}
use Rattle.grep_matcher.specs.Lines.{byte_of}
use Rattle.grep_searcher.specs.Lines.{lines}
use Rattle.grep_printer.proofs.TextLemmas.{IsPushing}
use Rattle.grep_printer.proofs.PushLemmas.{HasPushed}
use Rattle.grep_printer.specs.LineTexts.{lines_text}
use Rattle.grep_printer.proofs.fields.Layout.push_lines.Given as goal

abbrev pub invariant-loop-line : goal.invariant-loop-line
invariant-loop-line l =
    HasPushed l.fn.text l.text (λ text. IsPushing l.fn.self l.fn.kind
    (l.fn.text.text ++ lines_text l.fn.self l.fn.kind l.fn.place l.fn.parts
    (lines (byte_of l.fn.self.terminator) l.fn.bytes)) text l.place l.line-iterator l.rest)
