use Rattle.grep_decode.proofs.DecoderLemmas.{done-gives}
use Rattle.grep_decode.proofs.laws.done_gives_nothing.Goals as goal

pub returns : goal.returns
returns c = done-gives
