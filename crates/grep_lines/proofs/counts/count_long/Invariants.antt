use Rattle.std.proofs.Common.{◌≡◌, ◌==◌, ◌+◌, length, count_by}
use Rattle.grep_lines.proofs.counts.count_long.Given as goal

abbrev pub invariant-loop-rest : goal.invariant-loop-rest
invariant-loop-rest l = l.total + count_by (λ b. b == l.terminator) l.rest
    ≡ count_by (λ b. b == l.terminator) l.bytes

abbrev pub decreases-loop-rest : goal.decreases-loop-rest
decreases-loop-rest l = length l.rest
