use Rattle.std.proofs.Common.{ap, not}
use Rattle.grep_matcher.specs.ByteSets.{holds}
use Rattle.grep_ignore.proofs.ClassLemmas.{sets-more}
use Rattle.linegrep_files.proofs.class.others.Goals as goal

pub loop-number-preserved : goal.loop-number-preserved
loop-number-preserved c = sets-more c.empty-others.result c.loop-number.others c.add_if.new.set
    (λ k. not (holds c.args.set.now k)) c.loop-number.number _ (ap not c.contains.ensures) c.loop-number.invariant c.add_if.ensures
