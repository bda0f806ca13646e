use Rattle.std.proofs.Common.{length, ◌+◌, ◌-◌}
use Rattle.grep_replace.proofs.FoundPartLemmas.{IsFinding}
use Rattle.grep_replace.specs.MatchedParts.{first_from}
use Rattle.grep_replace.proofs.parts.find_parts.Given as goal

abbrev pub invariant-loop-found : goal.invariant-loop-found
invariant-loop-found g l =
    IsFinding (first_from (g.M.FindAt.first_at l.matcher l.bytes) l.start) (length l.bytes - l.start) l.limit
    l.parts.items l.position l.end

abbrev pub decreases-loop-found : goal.decreases-loop-found
decreases-loop-found g l = length l.bytes + 1 - l.position
