use Rattle.std.proofs.Common.{◌≡◌, ◌==◌, count_by, take}
use Rattle.grep_lines.proofs.counts.count_few.Given as goal

abbrev pub invariant-loop-byte : goal.invariant-loop-byte
invariant-loop-byte l = l.total ≡ count_by (λ b. b == l.terminator) (take l.byte-index l.bytes)
