use Rattle.std.proofs.Common.{◌==◌, ◌+◌, ◌≤◌, ℕ, count_by, arith, ap, take_all}
use Rattle.std.proofs.lemmas.Simd.{Each1-replicate, Each1-weaker}
use Rattle.grep_lines.proofs.LaneLemmas.{count-split}
use Rattle.grep_lines.proofs.counts.count_block.Goals as goal

pub loop-rest-init : goal.loop-rest-init
loop-rest-init c = record {
  counted = omega arith;
  most = 0;
  few = Each1-replicate (λ n. n ≤ 0) 64 0 (omega arith);
  left = omega arith;
}

pub add_equal-lanes-requires : goal.add_equal-lanes-requires
add_equal-lanes-requires c =
    let now = c.loop-rest.invariant in
    Each1-weaker (λ n. n ≤ now.most) (λ n. n ≤ 254) (λ n low. omega arith) c.loop-rest.lanes now.few

pub loop-rest-preserved : goal.loop-rest-preserved
loop-rest-preserved c =
    let now = c.loop-rest.invariant in
    let equals : ℕ → _ = λ (b : ℕ). b == c.args.terminator in
    let part = c.split_at.result.0.now in
    record {
      counted = omega (
        arith,
        count-split equals 64 c.loop-rest.rest.now,
        ap (count_by equals) c.split_at.ensures.front,
        ap (count_by equals) c.split_at.ensures.back,
        ap (count_by equals) (take_all 64 part (omega (arith, c.split_at.ensures.front_len))),
      );
      most = now.most + 1;
      few = c.add_equal-lanes.ensures.grown now.most now.few;
      left = omega arith;
    }
