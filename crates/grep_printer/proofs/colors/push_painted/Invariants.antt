use Rattle.std.proofs.Common.{length, false, ◌++◌}
use Rattle.grep_printer.proofs.ColorLemmas.{IsPainting}
use Rattle.grep_printer.proofs.PushLemmas.{HasPushed}
use Rattle.grep_printer.specs.ColoredTexts.{is_matched, painted_from}
use Rattle.grep_printer.proofs.colors.push_painted.Given as goal

abbrev pub invariant-loop-part : goal.invariant-loop-part
invariant-loop-part l =
    HasPushed l.fn.text l.text (λ text. IsPainting l.color l.back l.fn.range.1
    (l.fn.text.text ++ painted_from l.color l.back (is_matched l.fn.parts l.fn.range.1) false l.fn.range.0 l.fn.line)
    text l.rest l.is_colored l.position l.left)

abbrev pub decreases-loop-part : goal.decreases-loop-part
decreases-loop-part l = length l.rest
