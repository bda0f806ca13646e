use Rattle.std.proofs.Common.{◌&&◌, not, if◌then◌else◌}
use Rattle.grep_matcher.specs.ByteSets.{holds}
use Rattle.grep_ignore.specs.Classes.{is_name_byte}
use Rattle.grep_ignore.proofs.ClassLemmas.{sets-more}
use Rattle.grep_ignore.proofs.class.class_of.Goals as goal

pub loop-number-preserved : goal.loop-number-preserved
loop-number-preserved c = sets-more c.empty-set.result c.loop-number.set c.add_if.new.set
    (λ k. is_name_byte k
    && (if c.args.negates then not (holds c.args.members.now k) else holds c.args.members.now k))
    c.loop-number.number c.is_chosen.result c.is_chosen.ensures c.loop-number.invariant c.add_if.ensures
