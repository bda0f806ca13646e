use Rattle.std.proofs.Common.{◌≡◌, IsTrue, false, subst, arith}
use Rattle.std.proofs.lemmas.Result.{IfOk-weaker}
use Rattle.regex_hir.specs.Meaning.{meaning}
use Rattle.grep_regex.specs.NamedBytes.{HasByte}
use Rattle.grep_regex.proofs.NamedByteLemmas.{has-over, lacks-over, has-of, lacks-of, has-at, lacks-more}
use Rattle.grep_regex.proofs.refused.+has_byte.Goals as goal

pub has_byte-returns-in-Concat-clause-yes : goal.has_byte-returns-in-Concat-clause-yes
has_byte-returns-in-Concat-clause-yes t c = IfOk-weaker c.one_has_byte.result _
    (λ has. IsTrue has → HasByte c.args.bytes.now c.args.byte (meaning c.args.hir.now))
    (λ has subs yes. has-of c.args.bytes.now c.args.byte c.args.hir.now c.in-Concat.subs c.in-Concat.is
    (rw c.deref-in-Concat.ensures.value at (subs yes)))
    c.one_has_byte.ensures.yes

pub has_byte-returns-in-Concat-clause-no : goal.has_byte-returns-in-Concat-clause-no
has_byte-returns-in-Concat-clause-no t c = IfOk-weaker c.one_has_byte.result _
    (λ has. has ≡ false → HasByte c.args.bytes.now c.args.byte (meaning c.args.hir.now) → ⊥)
    (λ has subs no. lacks-of c.args.bytes.now c.args.byte c.args.hir.now c.in-Concat.subs c.in-Concat.is
    (rw c.deref-in-Concat.ensures.value at (subs no)))
    c.one_has_byte.ensures.no

pub has_byte-returns-in-Repetition-clause-yes : goal.has_byte-returns-in-Repetition-clause-yes
has_byte-returns-in-Repetition-clause-yes t c = IfOk-weaker c.has_byte.result _
    (λ has. IsTrue has → HasByte c.args.bytes.now c.args.byte (meaning c.args.hir.now))
    (λ has sub yes. has-over c.args.bytes.now c.args.byte c.args.hir.now c.in-Repetition.sub c.in-Repetition.is
    (c.is_never.ensures.repeats c.if-is_never.false)
    (subst (λ h. HasByte c.args.bytes.now c.args.byte (meaning h)) c.deref-in-Repetition.ensures (sub yes)))
    c.has_byte.ensures.yes

pub has_byte-returns-in-Repetition-clause-no : goal.has_byte-returns-in-Repetition-clause-no
has_byte-returns-in-Repetition-clause-no t c = IfOk-weaker c.has_byte.result _
    (λ has. has ≡ false → HasByte c.args.bytes.now c.args.byte (meaning c.args.hir.now) → ⊥)
    (λ has sub no. lacks-over c.args.bytes.now c.args.byte c.args.hir.now c.in-Repetition.sub c.in-Repetition.is
    (subst (λ h. HasByte c.args.bytes.now c.args.byte (meaning h) → ⊥) c.deref-in-Repetition.ensures (sub no)))
    c.has_byte.ensures.no

pub one_has_byte-returns-then-branch-clause-yes : goal.one_has_byte-returns-then-branch-clause-yes
one_has_byte-returns-then-branch-clause-yes t c = λ yes. has-at c.args.bytes.now c.args.byte c.args.subs.now
    c.loop-i.i c.index-subs-i.result (omega arith)
    (subst (λ h. HasByte c.args.bytes.now c.args.byte (meaning h)) c.index-subs-i.is
    (c.in_ok-has_byte.ensures.yes c.if-branch.true))

pub one_has_byte-loop-i-preserved : goal.one_has_byte-loop-i-preserved
one_has_byte-loop-i-preserved t c = lacks-more c.args.bytes.now c.args.byte c.args.subs.now
    c.loop-i.i c.index-subs-i.result (omega arith) c.loop-i.invariant
    (subst (λ h. HasByte c.args.bytes.now c.args.byte (meaning h) → ⊥) c.index-subs-i.is
    (c.in_ok-has_byte.ensures.no c.if-branch.false))
