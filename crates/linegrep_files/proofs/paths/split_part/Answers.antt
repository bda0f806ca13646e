use Rattle.std.proofs.Common.{◌+◌, arith}
use Rattle.std.proofs.lemmas.Bool.{eq-eqb, ne_eqb}
use Rattle.linegrep_files.proofs.PartLemmas.{none-ends, parts-at, parts-whole, rest-is}
use Rattle.linegrep_files.proofs.paths.split_part.Goals as goal

pub returns-then-text-at-clause-split : goal.returns-then-text-at-clause-split
returns-then-text-at-clause-split c =
    parts-at c.args.end c.args.text.now _ c.loop-at.at c.loop-at-test.true
    (eq-eqb _ c.args.end c.if-text-at.true) c.loop-at.invariant.none
    (rest-is c.args.text.now (c.loop-at.at + 1))

pub loop-at-preserved : goal.loop-at-preserved
loop-at-preserved c = record {
  within = omega (arith, c.loop-at-test.true);
  none = none-ends c.args.end c.args.text.now c.loop-at.at c.loop-at-test.true
      (ne_eqb _ c.args.end c.if-text-at.false) c.loop-at.invariant.none;
}

pub returns-clause-split : goal.returns-clause-split
returns-clause-split c =
    parts-whole c.args.end c.args.text.now c.loop-at.at c.loop-at-test.false c.loop-at.invariant.none
