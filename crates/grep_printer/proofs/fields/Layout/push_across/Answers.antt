use Rattle.std.proofs.Common.{◌≡◌, length, refl, rules, subst, sym, ℕ, List, ◌++◌, ◌+◌}
use Rattle.std.specs.List.{flat_map}
use Rattle.grep_matcher.specs.Lines.{byte_of}
use Rattle.grep_searcher.specs.Lines.{lines}
use Rattle.grep_printer.proofs.PartTextLemmas.{IsCrossing, crossing-more, crossing-none, ordered-after}
use Rattle.grep_printer.proofs.PushLemmas.{pushed-more, pushed-none}
use Rattle.grep_printer.specs.LineTexts.{next_number}
use Rattle.grep_replace.specs.MatchedParts.{AreInOrder, parts_after}
use Rattle.grep_printer.specs.PartTexts.{across_text, clipped_text, line_span}
use Rattle.grep_output.specs.PendingTexts.{Adds}
use Rattle.grep_printer.specs.Reports.{line_kind}
use Rattle.grep_printer.specs.declared.reports.Span.{Span}
use Rattle.grep_printer.proofs.fields.Layout.push_across.Goals as goal

pub loop-line-init : goal.loop-line-init
loop-line-init c =
    let same : c.into_iter-line-iterator.result
    ≡ lines (byte_of c.args.self.now.terminator) c.args.report.now.bytes.now =
    search rules in
    pushed-none c.args.text.now _
    (crossing-none c.args.self.now (line_kind c.args.report.now.kind) c.args.report.now.offset
    c.args.report.now.bytes.now c.args.text.now.text c.args.report.now.number c.into_iter-line-iterator.result
    c.args.parts.now same c.requires.ordered)

pub push_clipped-requires-clause-ordered : goal.push_clipped-requires-clause-ordered
push_clipped-requires-clause-ordered c =
    subst (AreInOrder 0 (length c.args.report.now.bytes.now)) (sym c.parts_after-rest.ensures)
    (ordered-after c.loop-line.rest.now c.loop-line.start 0 (length c.args.report.now.bytes.now)
    c.loop-line.invariant.is.ordered)

pub loop-line-preserved : goal.loop-line-preserved
loop-line-preserved c =
    let layout = c.args.self.now in
    let report = c.args.report.now in
    let kind = line_kind report.kind in
    let bytes : List ℕ = report.bytes.now in
    let line : List ℕ = c.in-Some.line.now in
    let number = c.loop-line.number in
    let start = c.loop-line.start in
    let rest : List (ℕ × ℕ) = c.loop-line.rest.now in
    let after : List (ℕ × ℕ) = parts_after start rest in
    let old = c.args.text.now in
    let clipped : Span → List (ℕ × ℕ) → List ℕ =
    λ span. flat_map (clipped_text layout kind report.offset bytes number span) in
    let span : Span = line_span layout.terminator start line in
    let spanned : c.line_span-span.result ≡ span = c.line_span-span.ensures in
    let whole : List ℕ = old.text ++ across_text layout kind report.offset bytes c.args.report.now.number 0
    (lines (byte_of layout.terminator) bytes) c.args.parts.now in
    let pushed = c.loop-line.invariant in
    rw (c.parts_after-rest.ensures, c.next_number-number.ensures, spanned)
    (pushed-more old c.loop-line.text c.push_clipped.new.text
    (λ text. IsCrossing layout kind report.offset bytes whole text number start c.loop-line.line-iterator rest)
    (λ text. IsCrossing layout kind report.offset bytes whole text (next_number number) (start + length line)
    c.next.new.self after) (clipped span after) pushed
    (subst (λ (s : Span). Adds c.loop-line.text c.push_clipped.new.text (clipped s after)) spanned
    (subst (λ (ps : List (ℕ × ℕ)). Adds c.loop-line.text c.push_clipped.new.text (clipped c.line_span-span.result ps))
    c.parts_after-rest.ensures c.push_clipped.ensures))
    (crossing-more layout kind report.offset bytes whole pushed.bytes number start c.loop-line.line-iterator rest line
    c.next.new.self (pushed.bytes ++ clipped span after) pushed.is c.in-Some.ensures.steps refl))
