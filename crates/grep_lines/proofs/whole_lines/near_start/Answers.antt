use Rattle.std.proofs.Common.{arith}
use Rattle.grep_lines.proofs.MaskLemmas.{start-before, start-marked}
use Rattle.grep_lines.proofs.whole_lines.near_start.Goals as goal

pub returns-then-near-ne0 : goal.returns-then-near-ne0
returns-then-near-ne0 c =
    let from = c.saturating_sub-from in
    let last = c.highest.ensures in
    start-marked c.args.terminator c.args.bytes.now c.args.position from.result c.marks.result
    c.bits_below-near.result
    (omega (arith, from.ensures)) (omega (arith, from.ensures)) c.marks.ensures
    c.bits_below-near.ensures.kept _
    (c.bits_below-near.ensures.below _ last.set) last.set last.above

pub returns-then-from-eq0 : goal.returns-then-from-eq0
returns-then-from-eq0 c =
    let from = c.saturating_sub-from in
    start-before c.args.terminator c.args.bytes.now c.args.position from.result c.marks.result
    c.bits_below-near.result
    (omega (arith, from.ensures)) (omega (arith, from.ensures)) c.marks.ensures
    c.bits_below-near.ensures.kept 0 (omega (arith, c.if-near-ne0.false)) (record {
      high = omega arith;
      inner = λ i low high. absurd (omega (arith, low, high, c.if-from-eq0.true));
      closed = λ some. absurd (omega arith);
    })

pub returns : goal.returns
returns c =
    let from = c.saturating_sub-from in (
      omega (arith, from.ensures),
      λ start last. start-before c.args.terminator c.args.bytes.now c.args.position from.result
          c.marks.result c.bits_below-near.result (omega (arith, from.ensures))
          (omega (arith, from.ensures)) c.marks.ensures c.bits_below-near.ensures.kept start
          (omega (arith, c.if-near-ne0.false)) last,
    )
