use Rattle.std.proofs.Common.{◌≡◌, length}
use Rattle.grep_replace.specs.MatchedParts.{parts_after}
use Rattle.grep_printer.proofs.parts.parts_after.Given as goal

abbrev pub invariant-loop-part : goal.invariant-loop-part
invariant-loop-part l = parts_after l.position l.rest ≡ parts_after l.fn.position l.fn.parts

abbrev pub decreases-loop-part : goal.decreases-loop-part
decreases-loop-part l = length l.rest
