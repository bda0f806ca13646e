use Rattle.std.proofs.Common.{◌+◌, ◌*◌, ◌-◌, ◌∙◌, ap, arith, take, slice_index_or}
use Rattle.grep_decode.proofs.BlockLemmas.{put-unit}
use Rattle.grep_decode.proofs.block.put_units.Goals as goal
use borrow.Rule.Slice.PartMut.{put_mid}

pub loop-i-preserved : goal.loop-i-preserved
loop-i-preserved c =
    let l = c.loop-i in
    let count = c.plain_front-count.ensures.within in
    let units = c.spell-units.result in
    let spelling = c.spell-units.ensures l.i (omega arith) in
    record {
      least = omega (arith, spelling.some);
      most = omega (arith, spelling.few);
      text = ap (λ bytes. take (l.written + slice_index_or units.sizes l.i 0)
          (put_mid l.written (l.written + 4 - l.written) l.output bytes))
          c.copy_from_slice.ensures.after
          ∙ put-unit c.args.lows c.args.highs units.firsts units.seconds units.thirds units.sizes
          c.in_fours.result
          l.output l.i l.written (l.written + 4 - l.written) (4 * l.i + 4 - 4 * l.i) c.fits-lows.0
          c.fits-highs.0
          c.in_fours.ensures (omega arith) (omega arith) (omega arith) c.spell-units.ensures
          l.invariant.text;
    }
