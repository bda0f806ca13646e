use Rattle.std.proofs.Common.{arith}
use Rattle.grep_decode.proofs.BlockLemmas.{plain-highs}
use Rattle.grep_decode.proofs.block.plain_front.Goals as goal

pub returns-clause-plain : goal.returns-clause-plain
returns-clause-plain c =
    plain-highs c.front_below.result 16 c.args.highs c.fits-highs.0 c.fits-highs.1
    (c.front_below.ensures.below c.front_below.result (omega arith))
