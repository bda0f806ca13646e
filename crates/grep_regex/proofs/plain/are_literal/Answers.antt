use Rattle.std.proofs.Common.{◌∙◌, arith, map, sym}
use Rattle.regex_hir.specs.Re.{literal}
use Rattle.grep_regex.specs.AbsentBytes.{is_plain}
use Rattle.grep_regex.specs.Patterns.{read_re}
use Rattle.grep_regex.proofs.AbsentLoopLemmas.{all-more, not-all, alike-texts-more, unplain}
use Rattle.grep_regex.proofs.plain.are_literal.Goals as goal

pub returns-then-not-is_plain-clause-value : goal.returns-then-not-is_plain-clause-value
returns-then-not-is_plain-clause-value c = sym (unplain c.args.options.now (map (λ p. p.now) c.args.patterns.now)
    (not-all c.args.patterns.now c.loop-i.i _ (omega arith) (is_plain c.args.options.now)
    (sym c.is_plain.ensures.value ∙ c.if-not-is_plain.true)))

pub loop-i-preserved : goal.loop-i-preserved
loop-i-preserved c = record {
  plain = all-more c.args.patterns.now c.loop-i.i _ (omega arith) (is_plain c.args.options.now)
      c.loop-i.invariant.plain (sym c.is_plain.ensures.value ∙ c.if-not-is_plain.false);
  alike = alike-texts-more c.args.patterns.now c.loop-i.i _ (omega arith) (read_re c.args.options.now) literal
      c.loop-i.invariant.alike (c.is_plain.ensures.read c.if-not-is_plain.false c.if-options.false);
}
