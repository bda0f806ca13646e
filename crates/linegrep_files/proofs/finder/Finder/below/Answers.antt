use Rattle.std.proofs.Common.{◌∙◌, sym}
use Rattle.linegrep_files.proofs.PartLemmas.{slash-next, slash-none}
use Rattle.linegrep_files.proofs.finder.Finder.below.Goals as goal

pub loop-below-preserved : goal.loop-below-preserved
loop-below-preserved g c =
    slash-next c.loop-below.below.now c.tail-below.result.now (sym c.begins_with.ensures ∙ c.loop-below-test.true)
    c.tail-below.ensures ∙ c.loop-below.invariant

pub returns : goal.returns
returns g c =
    slash-none c.loop-below.below.now (sym c.begins_with.ensures ∙ c.loop-below-test.false)
    ∙ c.loop-below.invariant
