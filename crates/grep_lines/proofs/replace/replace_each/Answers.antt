use Rattle.std.proofs.Common.{if◌then◌else◌, ◌==◌, ◌<◌, length, get_or}
use Rattle.grep_lines.proofs.ReplaceLemmas.{kept-is, replaced-is, replaced-next}
use Rattle.grep_lines.proofs.replace.replace_each.Goals as goal
use Rattle.grep_lines.proofs.replace.replace_each.Goals.{then-byte-src, else-byte-src}

pub loop-byte-preserved : goal.loop-byte-preserved
loop-byte-preserved c =
    let some : c.loop-byte.byte-index < length c.loop-byte.bytes =
    rw c.loop-byte.auto.bytes c.loop-byte-test.true in
    replaced-next (λ b. if b == c.args.src then c.args.new else b) c.loop-byte.bytes
    c.args.bytes.now c.loop-byte.byte-index
    c.if-byte-src.byte some c.loop-byte-test.true c.loop-byte.invariant.0 c.loop-byte.invariant.1
    (elim c.if-byte-src.branch [
      | then-byte-src w ↦ replaced-is c.args.src c.args.new
          (get_or c.loop-byte.bytes c.loop-byte.byte-index 0) _ w.if-byte-src.true w.byte-is
      | else-byte-src w ↦ kept-is c.args.src c.args.new
          (get_or c.loop-byte.bytes c.loop-byte.byte-index 0) _ w.if-byte-src.false w.byte-is
    ])
