use Rattle.linegrep_files.proofs.GlobTextLemmas.{texts-next}
use Rattle.linegrep_files.proofs.glob.Glob.add_all.Goals as goal

pub loop-text-preserved : goal.loop-text-preserved
loop-text-preserved c =
    let (pieces, is, are) = c.in_ok-add.ensures.ok in
    texts-next _ _ c.args.texts.now c.loop-text.text-index c.text-item.result _ _ pieces
    c.loop-text-test.true c.text-item.is c.loop-text.invariant is (rw c.as_slice.ensures.value at are)
