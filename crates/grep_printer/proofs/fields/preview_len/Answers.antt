use Rattle.std.proofs.Common.{ℕ, ◌-◌, List, ap, arith, length, subst, sym}
use Rattle.bstr.proofs.lemmas.SpanLemmas.{All-lossy_spans}
use Rattle.bstr.specs.Unicode.{Span, grapheme_spans}
use Rattle.bstr.specs.UnicodeIter.{grapheme_indices_left}
use Rattle.grep_printer.proofs.PreviewLemmas.{IsPassing, passing-all, passing-enough, passing-more, passing-none}
use Rattle.grep_printer.specs.LineTexts.{preview_len}
use Rattle.grep_printer.proofs.fields.preview_len.Goals as goal

pub loop-left-init : goal.loop-left-init
loop-left-init c =
    let bytes : List ℕ = c.args.bytes.now in
    subst (IsPassing (preview_len c.args.most bytes) (length bytes) 0 c.args.most)
    (sym c.grapheme_indices-clusters.ensures.left)
    (passing-none (length bytes) c.args.most (grapheme_spans bytes) (All-lossy_spans _ bytes))

pub loop-left-preserved : goal.loop-left-preserved
loop-left-preserved c =
    let bytes : List ℕ = c.args.bytes.now in
    let step = c.in-Some.ensures.steps.1 in
    passing-more (preview_len c.args.most bytes) (length bytes) c.loop-left.end c.loop-left.left (c.loop-left.left - 1)
    c.in-Some.next (grapheme_indices_left c.loop-left.clusters) step.0 (grapheme_indices_left c.next.new.self)
    c.loop-left.invariant (omega arith) step.2 (ap (λ (span : Span). span.1) step.1)

pub returns-in_default-clause-value : goal.returns-in_default-clause-value
returns-in_default-clause-value c =
    let bytes : List ℕ = c.args.bytes.now in
    let step = rw c.in_default.is at c.next.ensures.steps.1 in
    passing-all (preview_len c.args.most bytes) (length bytes) c.loop-left.end c.loop-left.left
    (grapheme_indices_left c.loop-left.clusters) c.loop-left.invariant step.0

pub returns-in_default-clause-within : goal.returns-in_default-clause-within
returns-in_default-clause-within c = c.loop-left.invariant.within

pub returns-clause-value : goal.returns-clause-value
returns-clause-value c =
    let bytes : List ℕ = c.args.bytes.now in
    passing-enough (preview_len c.args.most bytes) (length bytes) c.loop-left.end c.loop-left.left
    (grapheme_indices_left c.loop-left.clusters) c.loop-left.invariant (omega arith)

pub returns-clause-within : goal.returns-clause-within
returns-clause-within c = c.loop-left.invariant.within
