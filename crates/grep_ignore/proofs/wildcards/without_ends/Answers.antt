use Rattle.std.proofs.Common.{◌-◌, ◌∙◌, sym, arith, rules}
use Rattle.grep_ignore.proofs.TailLemmas.{all-left, ends-apart, ends-fit}
use Rattle.grep_ignore.proofs.wildcards.without_ends.Goals as goal

pub loop-count-init : goal.loop-count-init
loop-count-init c = record {
  pieces_within = search rules;
  path_within = search rules;
  same = all-left c.args.pieces.now c.args.path.now;
}

pub returns-in-Some-false : goal.returns-in-Some-false
returns-in-Some-false c = ends-apart c.args.pieces.now c.args.path.now (c.loop-count.count - 1)
    c.loop-count.count (c.loop-count.length - 1) c.loop-count.length c.index-pieces-count.result
    c.in-Some-false.ensures.0 (omega (arith, c.loop-count-test.true)) (omega (arith, c.if-length-gt0.true))
    c.loop-count.invariant.pieces_within c.loop-count.invariant.path_within c.index-pieces-count.is
    c.in-Some-false.ensures.1 (sym c.in-Some-false.field-0-test ∙ c.in-Some-false.ensures.2)
    c.loop-count.invariant.same

pub loop-count-preserved : goal.loop-count-preserved
loop-count-preserved c = record {
  pieces_within = omega (arith, c.loop-count.invariant.pieces_within);
  path_within = omega (arith, c.loop-count.invariant.path_within);
  same = ends-fit c.args.pieces.now c.args.path.now (c.loop-count.count - 1) c.loop-count.count
      (c.loop-count.length - 1) c.loop-count.length c.index-pieces-count.result c.in-Some-true.ensures.0
      (omega (arith, c.loop-count-test.true)) (omega (arith, c.if-length-gt0.true))
      c.loop-count.invariant.pieces_within c.loop-count.invariant.path_within c.index-pieces-count.is
      c.in-Some-true.ensures.1 (sym c.in-Some-true.field-0-test ∙ c.in-Some-true.ensures.2)
      c.loop-count.invariant.same;
}
