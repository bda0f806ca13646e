use Rattle.std.proofs.Common.{◌≡◌, ◌≤◌, ◌==◌, ◌+◌, ◌*◌, ℕ, length, count_by}
use Rattle.grep_lines.proofs.counts.count_block.Given as goal
use lib.Lanes.{Each1, sum_l}

abbrev pub invariant-loop-rest : goal.invariant-loop-rest
invariant-loop-rest l = record {
  counted : sum_l l.lanes + count_by (λ b. b == l.terminator) l.rest
      ≡ count_by (λ b. b == l.terminator) l.block;
  most : ℕ;
  few : Each1 (λ n. n ≤ most) l.lanes;
  left : most * 64 + length l.rest ≤ length l.block;
}

abbrev pub decreases-loop-rest : goal.decreases-loop-rest
decreases-loop-rest l = length l.rest
