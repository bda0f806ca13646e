use Rattle.grep_decode.proofs.BlockLemmas.{fours-found}
use Rattle.grep_decode.proofs.block.in_fours.Goals as goal

pub returns : goal.returns
returns c = fours-found c.args.firsts c.args.seconds c.args.thirds c.fits-firsts.0 c.fits-seconds.0
    c.fits-thirds.0
