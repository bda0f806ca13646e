use Rattle.std.proofs.Common.{◌+◌, ap, refl}
use Rattle.grep_printer.proofs.PushLemmas.{pushed-more, pushed-none}
use Rattle.grep_printer.proofs.VimgrepLemmas.{IsListing, listing-more}
use Rattle.grep_printer.proofs.vimgrep.push_part_lines.Goals as goal

pub loop-part-init : goal.loop-part-init
loop-part-init c =
    pushed-none c.args.text.now _ (record {
      writing = record { pushed = refl; ordered = c.requires.ordered };
      counted = refl;
      ordered = c.requires.ordered;
    })

pub loop-part-preserved : goal.loop-part-preserved
loop-part-preserved c =
    let layout = c.args.layout.now in
    let report = c.args.report.now in
    let old = c.args.text.now in
    let all = c.args.parts.now in
    let loop = c.loop-part in
    let part = c.in-Some.part.now in
    let later = c.in-Some.later.now in
    let next = loop.passed + c.count-passed.result in
    rw c.start-position.ensures.value (pushed-more old loop.text c.push_part_line.new.text
    (λ text. IsListing layout report old.text all text loop.passed loop.position loop.rest.now)
    (λ text. IsListing layout report old.text all text next part.0 later) _ loop.invariant
    c.push_part_line.ensures
    (listing-more layout report old.text all loop.invariant.bytes loop.passed loop.position loop.rest.now part later next
    loop.invariant.is c.in-Some.ensures.cases.0 (ap (λ n. loop.passed + n)
    (simp (c.as_byte-terminator.ensures, c.start.ensures.value) at c.count-passed.ensures))))
