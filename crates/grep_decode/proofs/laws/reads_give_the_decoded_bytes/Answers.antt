use Rattle.grep_decode.proofs.DecoderLemmas.{reads-give-all}
use Rattle.grep_decode.proofs.laws.reads_give_the_decoded_bytes.Goals as goal

pub returns : goal.returns
returns g c = reads-give-all g.R.Source.remaining g.R.Source.step
