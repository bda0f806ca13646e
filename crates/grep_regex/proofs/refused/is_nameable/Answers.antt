use Rattle.std.proofs.Common.{subst, arith}
use Rattle.grep_regex.specs.NamedBytes.{CanName}
use Rattle.grep_regex.proofs.NamedByteLemmas.{not-nameable}
use Rattle.grep_regex.proofs.RefusalLemmas.{all-texts, all-texts-more}
use Rattle.grep_regex.proofs.refused.is_nameable.Goals as goal

pub loop-i-preserved : goal.loop-i-preserved
loop-i-preserved c = all-texts-more c.args.patterns.now c.loop-i.i _ (omega arith)
    (λ text. CanName c.args.options.now c.args.byte text → ⊥) c.loop-i.invariant
    (subst (λ text. CanName c.args.options.now c.args.byte text → ⊥) c.as_bytes.ensures.value
    (c.can_name.ensures.no c.if-can_name.false))

pub returns-clause-no : goal.returns-clause-no
returns-clause-no c = λ no. not-nameable c.args.options.now c.args.patterns.now c.args.byte
    (all-texts c.args.patterns.now c.loop-i.i (λ text. CanName c.args.options.now c.args.byte text → ⊥) (omega arith)
    c.loop-i.invariant)
