use Rattle.std.proofs.Common.{arith, sym}
use Rattle.grep_ignore.specs.Layers.{of_none, of_rule}
use Rattle.grep_ignore.proofs.LayerLemmas.{silent-more}
use Rattle.grep_ignore.proofs.layers.first_decider.Goals as goal

pub returns : goal.returns
returns c = of_none (λ k layer less. c.loop-at.invariant k layer (omega (arith, less, c.loop-at-test.false)))

pub returns-in-Some : goal.returns-in-Some
returns-in-Some c = let ends = rw c.in-Some.is at c.in_ok-rule.ensures in
    of_rule c.loop-at.at c.index-layers-at.result c.in-Some.rule.now c.loop-at-test.true (sym c.index-layers-at.is)
    ends.0 ends.1 c.loop-at.invariant

pub loop-at-preserved : goal.loop-at-preserved
loop-at-preserved c = silent-more _ _ _ _ c.args.layers.now c.loop-at.at c.index-layers-at.result
    c.loop-at-test.true c.index-layers-at.is c.loop-at.invariant
    (rw c.in-None.is at c.in_ok-rule.ensures)
