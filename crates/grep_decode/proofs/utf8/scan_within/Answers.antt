use Rattle.std.proofs.Common.{◌+◌, arith}
use Rattle.std.proofs.lemmas.List.{length-take-le}
use Rattle.grep_decode.proofs.LossyLemmas.{utf8_lossy-cut}
use Rattle.grep_decode.proofs.utf8.scan_within.Goals as goal

pub returns-clause-ill_formed : goal.returns-clause-ill_formed
returns-clause-ill_formed c = λ some more when.
    let front = c.scan-2.result in
    utf8_lossy-cut c.args.input.now more c.args.room front.well_formed (front.well_formed
    + front.ill_formed) (omega arith)
    (omega (arith, length-take-le c.args.room c.args.input.now (omega arith))) (omega arith)
    (λ later. c.scan-2.ensures.ill_formed some later (λ not. absurd (cc)))
