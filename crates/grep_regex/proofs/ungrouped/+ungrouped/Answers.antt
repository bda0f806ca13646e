use Rattle.std.proofs.Common.{◌∙◌, map, subst, sym, arith}
use Rattle.std.proofs.lemmas.Result.{IfOk-weaker}
use Rattle.regex_hir.specs.Meaning.{meaning}
use Rattle.grep_regex.specs.SameEnds.{SameEnds, AreSameEnds}
use Rattle.grep_regex.proofs.SameEndLemmas.{same-Empty, same-Literal, same-Bytes, same-Chars, same-Look}
use Rattle.grep_regex.proofs.SameEndLemmas.{same-Repetition, same-Capture, same-Concat, same-Alternation, same-more}
use Rattle.grep_regex.proofs.ungrouped.+ungrouped.Goals as goal

pub ungrouped-returns-in-Empty : goal.ungrouped-returns-in-Empty
ungrouped-returns-in-Empty t c = same-Empty c.args.hir.now c.in-Empty.is

pub ungrouped-returns-in_ok-from_slice-in-Literal : goal.ungrouped-returns-in_ok-from_slice-in-Literal
ungrouped-returns-in_ok-from_slice-in-Literal t c = same-Literal c.args.hir.now c.in-Literal.text _ c.in-Literal.is
    (c.in_ok-from_slice-in-Literal.ensures.items ∙ c.deref.ensures.value)

pub ungrouped-returns-in_ok-clone-in-Bytes : goal.ungrouped-returns-in_ok-clone-in-Bytes
ungrouped-returns-in_ok-clone-in-Bytes t c = same-Bytes c.args.hir.now c.in-Bytes.members _ c.in-Bytes.is c.in_ok-clone-in-Bytes.ensures

pub ungrouped-returns-in_ok-clone-in-Chars : goal.ungrouped-returns-in_ok-clone-in-Chars
ungrouped-returns-in_ok-clone-in-Chars t c = same-Chars c.args.hir.now c.in-Chars.members _ c.in-Chars.is c.in_ok-clone-in-Chars.ensures

pub ungrouped-returns-in-Look : goal.ungrouped-returns-in-Look
ungrouped-returns-in-Look t c = same-Look c.args.hir.now c.in-Look.look c.in-Look.is

pub ungrouped-returns-in_ok-new-in-Repetition : goal.ungrouped-returns-in_ok-new-in-Repetition
ungrouped-returns-in_ok-new-in-Repetition t c = same-Repetition c.args.hir.now
    c.in-Repetition.min c.in-Repetition.max c.in-Repetition.greedy c.in-Repetition.sub
    c.in_ok-new-in-Repetition.field-0 c.in-Repetition.is
    (subst (λ h. SameEnds (meaning h) (meaning c.in_ok-new-in-Repetition.field-0.value)) c.deref-in-Repetition.ensures
    (subst (λ h. SameEnds (meaning c.deref-in-Repetition.result.now) (meaning h)) (sym c.in_ok-new-in-Repetition.ensures.ok)
    c.in_ok-ungrouped-in-Repetition.ensures))

pub ungrouped-returns-in-Capture : goal.ungrouped-returns-in-Capture
ungrouped-returns-in-Capture t c = IfOk-weaker c.ungrouped-in-Capture.result
    (λ new. SameEnds (meaning c.deref-in-Capture.result.now) (meaning new))
    (λ new. SameEnds (meaning c.args.hir.now) (meaning new))
    (λ new same. same-Capture c.args.hir.now c.in-Capture.index c.in-Capture.sub new c.in-Capture.is
    (subst (λ h. SameEnds (meaning h) (meaning new)) c.deref-in-Capture.ensures same))
    c.ungrouped-in-Capture.ensures

pub ungrouped-returns-in_ok-ungrouped_all-in-Concat : goal.ungrouped-returns-in_ok-ungrouped_all-in-Concat
ungrouped-returns-in_ok-ungrouped_all-in-Concat t c = same-Concat c.args.hir.now c.in-Concat.subs _ c.in-Concat.is
    (subst (λ xs. AreSameEnds (map meaning xs) (map meaning c.in_ok-ungrouped_all-in-Concat.field-0.items))
    c.deref-in-Concat.ensures.value c.in_ok-ungrouped_all-in-Concat.ensures)

pub ungrouped-returns-in_ok-ungrouped_all-in-Alternation : goal.ungrouped-returns-in_ok-ungrouped_all-in-Alternation
ungrouped-returns-in_ok-ungrouped_all-in-Alternation t c =
    same-Alternation c.args.hir.now c.in-Alternation.subs _ c.in-Alternation.is
    (subst (λ xs. AreSameEnds (map meaning xs) (map meaning c.in_ok-ungrouped_all-in-Alternation.field-0.items))
    c.deref-in-Alternation.ensures.value c.in_ok-ungrouped_all-in-Alternation.ensures)

pub ungrouped_all-loop-i-preserved : goal.ungrouped_all-loop-i-preserved
ungrouped_all-loop-i-preserved t c = same-more c.args.subs.now c.loop-i.all.items c.push.new.self.items c.loop-i.i
    c.index-subs-i.result c.in_ok-ungrouped.field-0 (omega arith) c.loop-i.invariant
    (subst (λ h. SameEnds (meaning h) (meaning c.in_ok-ungrouped.field-0)) c.index-subs-i.is c.in_ok-ungrouped.ensures)
    c.in_ok-push.ensures.items
