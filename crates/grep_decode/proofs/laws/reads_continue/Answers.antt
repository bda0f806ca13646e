use Rattle.grep_decode.proofs.DecoderLemmas.{Decodes-none, Decodes-append}
use Rattle.grep_decode.proofs.laws.reads_continue.Goals as goal

pub returns-clause-none : goal.returns-clause-none
returns-clause-none g c = Decodes-none g.R.Source.remaining g.R.Source.step

pub returns-clause-more : goal.returns-clause-more
returns-clause-more g c = Decodes-append g.R.Source.remaining g.R.Source.step
