use Rattle.std.proofs.Common.{length}
use Rattle.grep_printer.proofs.HyperlinkLemmas.{AreRead}
use Rattle.grep_printer.proofs.hyperlink_format.read_parts.Given as goal

abbrev pub invariant-loop-byte : goal.invariant-loop-byte
invariant-loop-byte l = AreRead l.fn.text l.parts.items l.rest

abbrev pub decreases-loop-byte : goal.decreases-loop-byte
decreases-loop-byte l = length l.rest
