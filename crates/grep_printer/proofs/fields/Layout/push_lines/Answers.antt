use Rattle.std.proofs.Common.{◌≡◌, List, refl, rules, subst, sym, ◌^◌, ◌++◌, ℕ}
use Rattle.grep_matcher.specs.Lines.{byte_of}
use Rattle.grep_searcher.specs.Lines.{lines}
use Rattle.grep_printer.proofs.PartTextLemmas.{ordered-after}
use Rattle.grep_printer.proofs.TextLemmas.{IsPushing, pushing-more, pushing-none}
use Rattle.grep_printer.proofs.PushLemmas.{pushed-more, pushed-none}
use Rattle.grep_printer.specs.LineTexts.{line_text, lines_text, place_after}
use Rattle.grep_replace.specs.MatchedParts.{AreInOrder, parts_after}
use Rattle.grep_printer.proofs.fields.Layout.push_lines.Goals as goal

pub loop-line-init : goal.loop-line-init
loop-line-init c =
    let same : c.into_iter-line-iterator.result ≡ lines (byte_of c.args.self.now.terminator) c.args.bytes.now =
    search rules in
    pushed-none c.args.text.now _
    (pushing-none c.args.self.now c.args.kind c.args.text.now.text c.args.place c.args.parts.now
    c.args.bytes.now c.into_iter-line-iterator.result same c.requires.fits c.requires.starts c.requires.ordered)

pub push_line-requires-clause-ordered : goal.push_line-requires-clause-ordered
push_line-requires-clause-ordered c =
    subst (AreInOrder 0 (2 ^ 64)) (sym c.parts_after-rest.ensures)
    (ordered-after c.loop-line.rest.now c.loop-line.place.start 0 (2 ^ 64) c.loop-line.invariant.is.ordered)

pub loop-line-preserved : goal.loop-line-preserved
loop-line-preserved c =
    let layout = c.args.self.now in
    let kind = c.args.kind in
    let old = c.args.text.now in
    let place = c.loop-line.place in
    let rest = c.loop-line.rest.now in
    let line : List ℕ = c.in-Some.line.now in
    let after = parts_after place.start rest in
    let one : List ℕ = line_text layout kind place after line in
    let whole : List ℕ = old.text ++ lines_text layout kind c.args.place c.args.parts.now
    (lines (byte_of layout.terminator) c.args.bytes.now) in
    let pushed = c.loop-line.invariant in
    rw (c.parts_after-rest.ensures, c.place_after-place.ensures)
    (pushed-more old c.loop-line.text c.push_line.new.text
    (λ text. IsPushing layout kind whole text place c.loop-line.line-iterator rest)
    (λ text. IsPushing layout kind whole text (place_after place line) c.next.new.self after) one pushed
    (rw (← c.parts_after-rest.ensures) c.push_line.ensures)
    (pushing-more layout kind whole pushed.bytes place c.loop-line.line-iterator rest line c.next.new.self
    (pushed.bytes ++ one) pushed.is c.in-Some.ensures.steps refl))
