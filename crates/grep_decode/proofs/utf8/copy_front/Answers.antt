use Rattle.std.proofs.Common.{arith}
use Rattle.grep_decode.proofs.LossyLemmas.{text-front}
use Rattle.grep_decode.proofs.utf8.copy_front.Goals as goal

pub returns-clause-text : goal.returns-clause-text
returns-clause-text c = λ more.
    text-front c.args.input.now more c.put.new.output c.min.result c.well_formed_front-count.result
    (omega arith) c.well_formed_front-count.ensures.within
    c.well_formed_front-count.ensures.well_formed c.put.ensures.bytes
