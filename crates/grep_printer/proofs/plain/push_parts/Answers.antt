use Rattle.std.proofs.Common.{length, refl, ◌++◌}
use Rattle.grep_printer.proofs.PartTextLemmas.{IsWriting, writing-more}
use Rattle.grep_printer.proofs.PushLemmas.{pushed-more, pushed-none}
use Rattle.grep_printer.specs.LineTexts.{plain_part}
use Rattle.grep_printer.proofs.plain.push_parts.Goals as goal

pub loop-part-init : goal.loop-part-init
loop-part-init c =
    pushed-none c.args.text.now _ (record { pushed = refl; ordered = c.requires })

pub loop-part-preserved : goal.loop-part-preserved
loop-part-preserved c =
    let high = length c.args.bytes.now in
    let texts = plain_part c.args.terminator 58 c.args.number c.args.bytes.now in
    let start = c.args.text.now.text in
    let pushed = c.loop-part.invariant in
    let part = c.in-Some.part.now in
    pushed-more c.args.text.now c.loop-part.text c.push_line.new.text
    (λ text. IsWriting texts high start c.args.parts.now text c.loop-part.rest.now)
    (λ text. IsWriting texts high start c.args.parts.now text c.in-Some.later.now) (texts part) pushed
    (simp (c.start.ensures.value, c.end.ensures.value) at c.push_line.ensures)
    (writing-more texts high start c.args.parts.now pushed.bytes c.loop-part.rest.now part c.in-Some.later.now
    (pushed.bytes ++ texts part) pushed.is c.in-Some.ensures.cases.0 refl)
