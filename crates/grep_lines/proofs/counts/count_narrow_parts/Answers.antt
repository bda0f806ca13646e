use Rattle.std.proofs.Common.{◌≡◌, ◌==◌, ◌+◌, ◌-◌, ℕ, length, drop, count_by, arith, ap, drop-drop}
use Rattle.std.proofs.Common.{◌∙◌}
use Rattle.grep_lines.proofs.LaneLemmas.{count-split}
use Rattle.grep_lines.proofs.counts.count_narrow_parts.Goals as goal

pub loop-rest-preserved : goal.loop-rest-preserved
loop-rest-preserved c =
    let now = c.loop-rest.invariant in
    let bytes = c.args.bytes.now in
    let rest = c.loop-rest.rest.now in
    let others = c.split_at.result.1.now in
    let equals : ℕ → _ = λ (b : ℕ). b == c.args.terminator in
    let sum : (length bytes - length rest) + 16 ≡ length bytes - length others =
    omega arith in
    record {
      counted = omega (
        arith,
        count-split equals 16 rest,
        ap (count_by equals) c.split_at.ensures.front,
        ap (count_by equals) c.split_at.ensures.back,
      );
      within = omega arith;
      end = c.split_at.ensures.back ∙ (ap (drop 16) now.end
          ∙ (drop-drop 16 (length bytes - length rest) bytes ∙ ap (λ k. drop k bytes) sum));
    }
