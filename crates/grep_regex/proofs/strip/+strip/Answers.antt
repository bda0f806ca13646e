use Rattle.std.proofs.Common.{subst, arith}
use Rattle.regex_hir.specs.Meaning.{meaning}
use Rattle.grep_regex.specs.Stripped.{IsStripped}
use Rattle.grep_regex.proofs.StrippedTreeLemmas.{tree-Empty, tree-Look, tree-Bytes, tree-Chars}
use Rattle.grep_regex.proofs.StrippedTreeLemmas.{tree-Repetition, tree-Capture, tree-Concat}
use Rattle.grep_regex.proofs.StrippedTreeLemmas.{tree-Alternation, class-thinned}
use Rattle.grep_regex.proofs.StrippedTreeLemmas.{trees-more, along, all-along}
use Rattle.grep_regex.proofs.strip.+strip.Goals as goal

pub strip-returns-in-Empty : goal.strip-returns-in-Empty
strip-returns-in-Empty t c = tree-Empty c.args.bytes.now c.args.hir.now c.in-Empty.is

pub strip-returns-in-Look : goal.strip-returns-in-Look
strip-returns-in-Look t c = tree-Look c.args.bytes.now c.args.hir.now c.in-Look.look c.in-Look.is

pub strip-returns-in_ok-difference-in-Bytes : goal.strip-returns-in_ok-difference-in-Bytes
strip-returns-in_ok-difference-in-Bytes t c = tree-Bytes c.args.bytes.now c.args.hir.now c.in-Bytes.members _
    c.in-Bytes.is
    (class-thinned c.args.bytes.now c.in-Bytes.members.ranges.items c.args.class.now.ranges.items
    c.in_ok-difference-in-Bytes.field-0.ranges.items c.requires.members c.in_ok-difference-in-Bytes.ensures)

pub strip-returns-in_ok-difference-in-Chars : goal.strip-returns-in_ok-difference-in-Chars
strip-returns-in_ok-difference-in-Chars t c = tree-Chars c.args.bytes.now c.requires.ascii c.args.hir.now
    c.in-Chars.members _ c.in-Chars.is
    (class-thinned c.args.bytes.now c.in-Chars.members.ranges.items c.args.class.now.ranges.items
    c.in_ok-difference-in-Chars.field-0.ranges.items c.requires.members c.in_ok-difference-in-Chars.ensures)

pub strip-returns-in_ok-new-in-Repetition : goal.strip-returns-in_ok-new-in-Repetition
strip-returns-in_ok-new-in-Repetition t c = tree-Repetition c.args.bytes.now c.args.hir.now
    c.in-Repetition.min c.in-Repetition.max
    c.in-Repetition.greedy c.in-Repetition.sub c.in_ok-new-in-Repetition.field-0 c.in-Repetition.is
    (along c.args.bytes.now _ _ _ _ c.deref-in-Repetition.ensures c.in_ok-new-in-Repetition.ensures.ok
    c.in_ok-strip-in-Repetition.ensures)

pub strip-returns-in_ok-new-in-Capture : goal.strip-returns-in_ok-new-in-Capture
strip-returns-in_ok-new-in-Capture t c = tree-Capture c.args.bytes.now c.args.hir.now c.in-Capture.index
    c.in-Capture.sub c.in_ok-new-in-Capture.field-0 c.in-Capture.is
    (along c.args.bytes.now _ _ _ _ c.deref-in-Capture.ensures c.in_ok-new-in-Capture.ensures.ok
    c.in_ok-strip-in-Capture.ensures)

pub strip-returns-in_ok-strip_all-in-Concat : goal.strip-returns-in_ok-strip_all-in-Concat
strip-returns-in_ok-strip_all-in-Concat t c = tree-Concat c.args.bytes.now c.args.hir.now c.in-Concat.subs _
    c.in-Concat.is
    (all-along c.args.bytes.now _ _ _ c.deref-in-Concat.ensures.value c.in_ok-strip_all-in-Concat.ensures)

pub strip-returns-in_ok-strip_all-in-Alternation : goal.strip-returns-in_ok-strip_all-in-Alternation
strip-returns-in_ok-strip_all-in-Alternation t c =
    tree-Alternation c.args.bytes.now c.args.hir.now c.in-Alternation.subs _ c.in-Alternation.is
    (all-along c.args.bytes.now _ _ _ c.deref-in-Alternation.ensures.value c.in_ok-strip_all-in-Alternation.ensures)

pub strip_all-loop-i-preserved : goal.strip_all-loop-i-preserved
strip_all-loop-i-preserved t c = trees-more c.args.bytes.now c.args.subs.now c.loop-i.all.items c.push.new.self.items
    c.loop-i.i c.index-subs-i.result c.in_ok-strip.field-0 (omega arith) c.loop-i.invariant
    (subst (λ h. IsStripped c.args.bytes.now (meaning h) (meaning c.in_ok-strip.field-0)) c.index-subs-i.is
    c.in_ok-strip.ensures)
    c.in_ok-push.ensures.items
