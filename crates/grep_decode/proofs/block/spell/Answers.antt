use Rattle.grep_decode.proofs.BlockLemmas.{spelled}
use Rattle.grep_decode.proofs.block.spell.Goals as goal

pub returns : goal.returns
returns c = spelled 16 c.args.lows c.args.highs c.fits-lows.0 c.fits-highs.0 c.fits-lows.1
    c.fits-highs.1
