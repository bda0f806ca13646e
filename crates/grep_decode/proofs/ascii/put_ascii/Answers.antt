use Rattle.grep_decode.proofs.AsciiBlockLemmas.{little-block, big-block}
use Rattle.grep_decode.proofs.ascii.put_ascii.Goals as goal

pub returns-in-Little-clause-text : goal.returns-in-Little-clause-text
returns-in-Little-clause-text c = λ more.
    let made = c.put_lows.ensures in
    rw c.in-Little.is (little-block c.args.input.now c.halves.result.0 c.halves.result.1
    c.put_lows.new.output more
    c.put_lows.result c.requires.input made.within c.halves.ensures.firsts c.halves.ensures.seconds
    made.bytes made.lows made.highs)

pub returns-in-Big-clause-text : goal.returns-in-Big-clause-text
returns-in-Big-clause-text c = λ more.
    let made = c.put_lows-in-Big.ensures in
    rw c.in-Big.is (big-block c.args.input.now c.halves.result.1 c.halves.result.0
    c.put_lows-in-Big.new.output more
    c.put_lows-in-Big.result c.requires.input made.within c.halves.ensures.firsts
    c.halves.ensures.seconds made.bytes made.lows made.highs)
