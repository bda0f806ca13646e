use Rattle.std.proofs.Common.{◌≡◌, arith}
use Rattle.grep_searcher.proofs.DifferenceLemmas.{bytes-differ, bytes-same, ends-differ}
use Rattle.uses.proofs.different.first_unlike.Goals as goal

pub returns-then-are_unlike : goal.returns-then-are_unlike
returns-then-are_unlike c = let differ = bytes-differ c.args.left.now c.args.right.now c.loop-index.index _ _ _ _
    c.index-left-index.is c.index-right-index.is c.deref.ensures.value c.deref-in-loop-index.ensures.value
    (omega arith) (omega arith) c.if-are_unlike.ensures in (c.loop-index.invariant, differ)

pub loop-index-preserved : goal.loop-index-preserved
loop-index-preserved c = bytes-same c.args.left.now c.args.right.now c.loop-index.index _ _ _ _
    c.index-left-index.is c.index-right-index.is c.deref.ensures.value c.deref-in-loop-index.ensures.value
    (omega arith) (omega arith) c.if-are_unlike.ensures c.loop-index.invariant

pub returns-else-left-right : goal.returns-else-left-right
returns-else-left-right c = let end : c.loop-index.index ≡ c.min-shorter.result = omega arith in
    (rw end at c.loop-index.invariant, ends-differ _ _ _ c.min-shorter.ensures c.if-left-right.false)
