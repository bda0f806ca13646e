use Rattle.std.proofs.Common.{length}
use Rattle.grep_printer.proofs.ReplacedLemmas.{IsReplacing}
use Rattle.grep_printer.specs.ReplacedTexts.{replacement_at}
use Rattle.grep_printer.proofs.replaced.Replacement.replace.Given as goal

abbrev pub invariant-loop-part : goal.invariant-loop-part
invariant-loop-part g l =
    IsReplacing (replacement_at g.M.CapturesAt.groups_at l.self) l.bytes l.parts l.replaced.bytes.items
    l.replaced.parts.items l.position l.rest

abbrev pub decreases-loop-part : goal.decreases-loop-part
decreases-loop-part g l = length l.rest
