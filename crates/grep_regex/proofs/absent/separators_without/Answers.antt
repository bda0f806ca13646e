use Rattle.std.proofs.Common.{◌∙◌, ◌&&◌, ap₂, arith, not}
use Rattle.grep_regex.specs.Clear.{is_among}
use Rattle.grep_regex.specs.Locality.{is_separator}
use Rattle.grep_regex.proofs.AbsentLoopLemmas.{none-more}
use Rattle.grep_regex.proofs.absent.separators_without.Goals as goal

pub loop-i-preserved : goal.loop-i-preserved
loop-i-preserved c = λ byte. c.remove_all.ensures byte
    ∙ (ap₂ (λ text old. not (is_among text byte) && old) c.as_bytes.ensures.value (c.loop-i.invariant byte)
    ∙ none-more c.args.patterns.now c.loop-i.i _ (omega arith) byte (is_separator byte))
