use Rattle.std.proofs.Common.{◌==◌, ◌∷◌, ◌+◌, ◌∙◌, sym, ap, take, arith}
use Rattle.std.specs.List.{slice_split}
use Rattle.std.proofs.lemmas.Bool.{eq-eqb, ne_eqb}
use Rattle.grep_ignore.proofs.LineLemmas.{none-more, rest-is, split-at, split-none}
use Rattle.grep_ignore.proofs.line.split_line.Goals as goal

pub returns-then-text-at-eq10-clause-split : goal.returns-then-text-at-eq10-clause-split
returns-then-text-at-eq10-clause-split c =
    split-at c.args.text.now c.loop-at.at c.loop-at-test.true (eq-eqb _ 10 c.if-text-at-eq10.true)
    c.loop-at.invariant.none
    ∙ ap (λ l. take c.loop-at.at c.args.text.now ∷ slice_split (λ byte. byte == 10) l)
    (sym (rest-is c.args.text.now (c.loop-at.at + 1)))

pub loop-at-preserved : goal.loop-at-preserved
loop-at-preserved c = record {
  within = omega (arith, c.loop-at-test.true);
  none = none-more c.args.text.now c.loop-at.at c.loop-at-test.true (ne_eqb _ 10 c.if-text-at-eq10.false)
      c.loop-at.invariant.none;
}

pub returns-clause-split : goal.returns-clause-split
returns-clause-split c = split-none c.args.text.now c.loop-at.at c.loop-at-test.false c.loop-at.invariant.none
