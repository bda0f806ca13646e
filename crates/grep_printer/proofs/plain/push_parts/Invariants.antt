use Rattle.std.proofs.Common.{length}
use Rattle.grep_printer.proofs.PartTextLemmas.{IsWriting}
use Rattle.grep_printer.proofs.PushLemmas.{HasPushed}
use Rattle.grep_printer.specs.LineTexts.{plain_part}
use Rattle.grep_printer.proofs.plain.push_parts.Given as goal

abbrev pub invariant-loop-part : goal.invariant-loop-part
invariant-loop-part l =
    HasPushed l.fn.text l.text (λ text. IsWriting (plain_part l.fn.terminator 58 l.fn.number l.fn.bytes)
    (length l.fn.bytes) l.fn.text.text l.fn.parts text l.rest)

abbrev pub decreases-loop-part : goal.decreases-loop-part
decreases-loop-part l = length l.rest
