use Rattle.std.proofs.Common.{arith}
use Rattle.linegrep_files.proofs.BraceLemmas.{extended-more}
use Rattle.linegrep_files.proofs.braces.extend_each.Goals as goal

pub loop-text-preserved : goal.loop-text-preserved
loop-text-preserved c = extended-more c.args.texts.now.items _ c.args.bytes.now c.loop-text.text-index
    c.text-item.result c.extend_from_slice.new.self (omega arith) (omega arith) c.loop-text.invariant
    c.in_ok-extend_from_slice.ensures.items
