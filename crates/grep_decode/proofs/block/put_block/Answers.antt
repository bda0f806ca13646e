use Rattle.grep_decode.proofs.BlockLemmas.{little-put, big-put}
use Rattle.grep_decode.proofs.block.put_block.Goals as goal

pub returns-in-Little-clause-text : goal.returns-in-Little-clause-text
returns-in-Little-clause-text c = λ more.
    rw c.in-Little.is (little-put c.args.input.now c.halves.result.0 c.halves.result.1 _ more
    c.put_units.result.taken c.requires.input c.type_inv.input c.halves.ensures.firsts
    c.halves.ensures.seconds c.put_units.ensures.bytes)

pub returns-in-Big-clause-text : goal.returns-in-Big-clause-text
returns-in-Big-clause-text c = λ more.
    rw c.in-Big.is (big-put c.args.input.now c.halves.result.1 c.halves.result.0 _ more
    c.put_units-in-Big.result.taken c.requires.input c.type_inv.input c.halves.ensures.firsts
    c.halves.ensures.seconds c.put_units-in-Big.ensures.bytes)
