use Rattle.std.proofs.Common.{◌∙◌, sym, ap, get_or}
use Rattle.grep_ignore.specs.Endings.{mixed}
use Rattle.grep_ignore.proofs.StartLemmas.{number-next}
use Rattle.grep_ignore.proofs.path_tests.number_after.Goals as goal

pub loop-byte-preserved : goal.loop-byte-preserved
loop-byte-preserved c = c.mixed-number.ensures
    ∙ ap (mixed (get_or c.args.text.now c.loop-byte.byte-index 0)) c.loop-byte.invariant
    ∙ sym (number-next 1 c.args.text.now c.loop-byte.byte-index c.loop-byte-test.true)
