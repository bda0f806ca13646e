use Rattle.std.proofs.Common.{◌∙◌, ◌==◌, ap, arith, length, not, sym}
use Rattle.grep_regex.proofs.AbsentLoopLemmas.{all-more, not-all}
use Rattle.grep_regex.proofs.absent.are_filled.Goals as goal

pub returns-then-is_empty : goal.returns-then-is_empty
returns-then-is_empty c = sym (not-all c.args.patterns.now c.loop-i.i _ (omega arith) (λ p. not (length p == 0))
    (ap not (sym c.is_empty.ensures ∙ c.if-is_empty.true)))

pub loop-i-preserved : goal.loop-i-preserved
loop-i-preserved c = all-more c.args.patterns.now c.loop-i.i _ (omega arith) (λ p. not (length p == 0))
    c.loop-i.invariant (ap not (sym c.is_empty.ensures ∙ c.if-is_empty.false))
