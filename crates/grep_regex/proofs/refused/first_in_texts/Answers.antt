use Rattle.std.proofs.Common.{◌≡◌, true, false, subst, arith}
use Rattle.std.specs.List.{list_any}
use Rattle.grep_regex.specs.Clear.{is_among}
use Rattle.grep_regex.proofs.RefusalLemmas.{all-texts, all-texts-more, any-text}
use Rattle.grep_regex.proofs.refused.first_in_texts.Goals as goal

pub returns-in-Some : goal.returns-in-Some
returns-in-Some c = (
  c.in-Some.ensures.0,
  any-text c.args.patterns.now c.loop-i.i _ (omega arith)
      (λ p. is_among p c.in-Some.byte)
      (subst (λ text. is_among text c.in-Some.byte ≡ true) c.as_bytes.ensures.value c.in-Some.ensures.1),
)

pub loop-i-preserved : goal.loop-i-preserved
loop-i-preserved c = all-texts-more c.args.patterns.now c.loop-i.i _ (omega arith)
    (λ p. list_any (is_among c.args.bytes.now) p ≡ false) c.loop-i.invariant
    (subst (λ text. list_any (is_among c.args.bytes.now) text ≡ false) c.as_bytes.ensures.value c.in_default.ensures)

pub returns : goal.returns
returns c = all-texts c.args.patterns.now c.loop-i.i (λ p. list_any (is_among c.args.bytes.now) p ≡ false) (omega arith)
    c.loop-i.invariant
