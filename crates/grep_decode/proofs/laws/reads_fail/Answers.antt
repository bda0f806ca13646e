use Rattle.grep_decode.proofs.DecoderLemmas.{reads-fail}
use Rattle.grep_decode.proofs.laws.reads_fail.Goals as goal

pub returns : goal.returns
returns g c = reads-fail g.R.Source.remaining g.R.Source.step
