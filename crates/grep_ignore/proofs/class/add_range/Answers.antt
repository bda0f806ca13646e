use Rattle.grep_ignore.specs.Classes.{is_either, is_in_range}
use Rattle.grep_ignore.proofs.ClassLemmas.{sets-more}
use Rattle.grep_ignore.proofs.class.add_range.Goals as goal

pub loop-number-preserved : goal.loop-number-preserved
loop-number-preserved c = sets-more c.args.set.now c.loop-number.set c.add_if.new.set
    (is_either c.args.ignores_case (is_in_range (c.args.first, c.args.last))) c.loop-number.number
    c.is_within.result c.is_within.ensures c.loop-number.invariant c.add_if.ensures
