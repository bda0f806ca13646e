use Rattle.linegrep_files.proofs.GlobRuleLemmas.{added-next}
use Rattle.linegrep_files.proofs.globs.Globs.add_all.Goals as goal

pub loop-text-preserved : goal.loop-text-preserved
loop-text-preserved c =
    added-next _ _ _ _ _ _ _ c.loop-text-test.true c.loop-text.invariant c.in-Ok.ensures.ok
