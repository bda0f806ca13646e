use Rattle.std.proofs.Common.{ℕ, ◌≤◌, ◌∙◌, List, ◌∷◌, ◌++◌, ap, arith, length, refl, subst}
use Rattle.std.specs.List.{flat_map}
use Rattle.grep_replace.specs.MatchedParts.{AreInOrder}
use Rattle.grep_printer.proofs.PartTextLemmas.{IsWriting, clipped-none, writing-done, writing-more}
use Rattle.grep_printer.proofs.PushLemmas.{pushed-all, pushed-more, pushed-none}
use Rattle.grep_printer.specs.PartTexts.{clipped_text}
use Rattle.grep_printer.specs.Reports.{line_kind}
use Rattle.grep_printer.proofs.fields.Layout.push_clipped.Goals as goal

pub loop-part-init : goal.loop-part-init
loop-part-init c =
    pushed-none c.args.text.now _ (record { pushed = refl; ordered = c.requires.ordered })

pub loop-part-preserved : goal.loop-part-preserved
loop-part-preserved c =
    let high = length c.args.report.now.bytes.now in
    let texts = clipped_text c.args.self.now (line_kind c.args.report.now.kind) c.args.report.now.offset
    c.args.report.now.bytes.now c.args.number c.args.span.now in
    let start = c.args.text.now.text in
    let pushed = c.loop-part.invariant in
    let part = c.in-Some.part.now in
    pushed-more c.args.text.now c.loop-part.text c.push_part_in.new.text
    (λ text. IsWriting texts high start c.args.parts.now text c.loop-part.rest.now)
    (λ text. IsWriting texts high start c.args.parts.now text c.in-Some.later.now) (texts part) pushed
    c.push_part_in.ensures
    (writing-more texts high start c.args.parts.now pushed.bytes c.loop-part.rest.now part c.in-Some.later.now
    (pushed.bytes ++ texts part) pushed.is c.in-Some.ensures.cases.0 refl)

pub returns-then-start-span : goal.returns-then-start-span
returns-then-start-span c =
    let span = c.args.span.now in
    let part = c.in-Some.part.now in
    let high : ℕ = length c.args.report.now.bytes.now in
    let texts : ℕ × ℕ → List ℕ = clipped_text c.args.self.now (line_kind c.args.report.now.kind) c.args.report.now.offset
    c.args.report.now.bytes.now c.args.number span in
    let start = c.args.text.now.text in
    let pushed = c.loop-part.invariant in
    let ordered : AreInOrder 0 high (part ∷ c.in-Some.later.now) =
    subst (AreInOrder 0 high) c.in-Some.ensures.cases.0 pushed.is.ordered in
    let before : span.next ≤ part.0 = omega arith in
    pushed-all c.args.text.now c.loop-part.text
    (λ text. IsWriting texts high start c.args.parts.now text c.loop-part.rest.now)
    (flat_map texts c.args.parts.now) pushed
    (writing-done texts high start c.args.parts.now pushed.bytes c.loop-part.rest.now pushed.is
    (ap (λ (ps : List (ℕ × ℕ)). flat_map texts ps) c.in-Some.ensures.cases.0
    ∙ clipped-none c.args.self.now (line_kind c.args.report.now.kind) c.args.report.now.offset c.args.report.now.bytes.now
    c.args.number span (part ∷ c.in-Some.later.now) part.0 high c.requires.stripped
    (omega arith, ordered.1, ordered.2, ordered.3) before))
