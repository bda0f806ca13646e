use Rattle.std.proofs.Common.{◌≡◌, ◌≤◌, ◌==◌, ◌+◌, ◌-◌, length, drop, count_by}
use Rattle.grep_lines.proofs.counts.count_wide_parts.Given as goal

abbrev pub invariant-loop-rest : goal.invariant-loop-rest
invariant-loop-rest l = record {
  counted : l.total + count_by (λ b. b == l.terminator) l.rest
      ≡ count_by (λ b. b == l.terminator) l.bytes;
  within : length l.rest ≤ length l.bytes;
  end : l.rest ≡ drop (length l.bytes - length l.rest) l.bytes;
}

abbrev pub decreases-loop-rest : goal.decreases-loop-rest
decreases-loop-rest l = length l.rest
