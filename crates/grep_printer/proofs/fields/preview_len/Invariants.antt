use Rattle.std.proofs.Common.{length}
use Rattle.bstr.specs.UnicodeIter.{grapheme_indices_left}
use Rattle.grep_printer.proofs.PreviewLemmas.{IsPassing}
use Rattle.grep_printer.specs.LineTexts.{preview_len}
use Rattle.grep_printer.proofs.fields.preview_len.Given as goal

abbrev pub invariant-loop-left : goal.invariant-loop-left
invariant-loop-left l =
    IsPassing (preview_len l.fn.most l.fn.bytes) (length l.fn.bytes) l.end l.left (grapheme_indices_left l.clusters)
