use Rattle.std.proofs.Common.{◌∙◌, arith, sym}
use Rattle.grep_regex.proofs.DecisionLemmas.{low-next, passes-all, passes-one, passes-rest, decision-next}
use Rattle.grep_regex.proofs.classes.decide.Goals as goal

pub returns-then-at-k : goal.returns-then-at-k
returns-then-at-k c = (
  omega (arith, c.loop-k.invariant.fits),
  passes-rest c.args.sets.now c.args.haystack.now c.args.at c.loop-k.k c.loop-k-test.true c.loop-k.invariant.fits
      c.if-at-k.true c.loop-k.invariant.low,
)

pub returns-then-is_in_any : goal.returns-then-is_in_any
returns-then-is_in_any c = (
  omega arith,
  passes-one c.args.sets.now c.args.haystack.now c.args.at c.loop-k.k c.index-sets-k.result c.loop-k-test.true
      c.index-sets-k.is c.if-at-k.false c.if-byte-ge128.false c.loop-k.invariant.low
      (sym c.contains.ensures ∙ c.if-not-contains.true) c.loop-k.invariant.same,
)

pub returns-then-not-contains : goal.returns-then-not-contains
returns-then-not-contains c = (
  omega arith,
  passes-all c.args.sets.now c.args.haystack.now c.args.at c.loop-k.k c.index-sets-k.result c.loop-k-test.true
      c.index-sets-k.is c.if-at-k.false c.if-byte-ge128.false c.loop-k.invariant.low
      (sym c.contains.ensures ∙ c.if-not-contains.true) (c.is_in_any.ensures c.if-is_in_any.false),
)

pub loop-k-preserved : goal.loop-k-preserved
loop-k-preserved c = record {
  same = decision-next c.args.sets.now c.args.haystack.now c.args.at c.loop-k.k c.index-sets-k.result c.loop-k-test.true
      c.index-sets-k.is c.if-at-k.false c.if-byte-ge128.false (sym c.contains.ensures ∙ c.if-not-contains.false)
      c.loop-k.invariant.same;
  low = low-next c.args.sets.now c.args.haystack.now c.args.at c.loop-k.k c.index-sets-k.result c.loop-k-test.true
      c.index-sets-k.is c.if-at-k.false c.if-byte-ge128.false c.loop-k.invariant.low;
  fits = omega (arith, c.if-at-k.false);
}
