use Rattle.grep_decode.proofs.LabelLemmas.{found, none-more}
use Rattle.grep_decode.proofs.label.is_one_of.Goals as goal

pub returns-then-eq_ignore_ascii_case : goal.returns-then-eq_ignore_ascii_case
returns-then-eq_ignore_ascii_case c =
    found _ _ _ c.loop-spelling-test.true _ c.eq_ignore_ascii_case.ensures.test
    c.if-eq_ignore_ascii_case.true

pub loop-spelling-preserved : goal.loop-spelling-preserved
loop-spelling-preserved c = none-more _ _ _ c.loop-spelling-test.true _
    c.eq_ignore_ascii_case.ensures.test c.if-eq_ignore_ascii_case.false c.loop-spelling.invariant
