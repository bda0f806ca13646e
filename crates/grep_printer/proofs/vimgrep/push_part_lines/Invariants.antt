use Rattle.std.proofs.Common.{length}
use Rattle.grep_printer.proofs.PushLemmas.{HasPushed}
use Rattle.grep_printer.proofs.VimgrepLemmas.{IsListing}
use Rattle.grep_printer.proofs.vimgrep.push_part_lines.Given as goal

abbrev pub invariant-loop-part : goal.invariant-loop-part
invariant-loop-part l =
    HasPushed l.fn.text l.text (λ text. IsListing l.fn.layout l.fn.report l.fn.text.text l.fn.parts text l.passed l.position l.rest)

abbrev pub decreases-loop-part : goal.decreases-loop-part
decreases-loop-part l = length l.rest
