use Rattle.std.proofs.Common.{◌<◌, ◌++◌, ◌∷◌, [], arith, length, take}
use Rattle.linegrep_cli.proofs.PatternLemmas.{contents-more, pulls-more}
use Rattle.linegrep_cli.proofs.named_patterns.read_input.Goals as goal

pub loop-preserved : goal.loop-preserved
loop-preserved g c =
    let (pieces, is, pulled) = c.loop.invariant in
    let piece = take c.in-Ok.count c.pull.new.buffer in
    let some : 0 < length piece = grind arith in (
      pieces ++ piece ∷ [],
      contents-more pieces piece _ _ is c.in-Ok-extend_from_slice.ensures.items,
      pulls-more g.R.Source.step _ _ _ pieces piece pulled some c.in-Ok.ensures.step,
    )
