use Rattle.std.proofs.Common.{[], ◌+◌, ap, refl, sym}
use Rattle.grep_printer.proofs.TextWriterLemmas.{put-fails, put-more, put-none}
use Rattle.grep_printer.proofs.VimgrepLemmas.{listing-more}
use Rattle.grep_printer.specs.StandardTexts.{text_before}
use Rattle.grep_printer.proofs.part_pieces.put_part_lines.Goals as goal

pub returns-in-Err : goal.returns-in-Err
returns-in-Err g c =
    let out = c.args.out.now in
    put-fails g.W.Output.step (Unit {0}) out out _ c.end_piece.new.self [] _ _ _ c.in-Err.error
    (put-none g.W.Output.step out c.requires.empty)
    (record {
      same = record { pending = refl; writer = refl; buffer_size = refl };
      writer = refl;
      has_written = refl;
      adds = c.push_before.ensures;
    })
    refl c.in-Err.ensures.put c.in-Err.ensures.same

pub returns-in-Err-end_piece : goal.returns-in-Err-end_piece
returns-in-Err-end_piece g c =
    let loop = c.loop-part in
    let layout = c.args.layout.now in
    let report = c.args.report.now in
    let part = c.in-Some.part.now in
    let later = c.in-Some.later.now in
    let next = loop.passed + c.count-passed.result in
    let start = text_before layout c.args.before.now in
    let listing = listing-more layout report start c.args.parts.now loop.invariant.text loop.passed loop.position
    loop.rest.now part later next loop.invariant.listing c.in-Some.ensures.cases.0 (ap (λ n. loop.passed + n)
    (simp (c.as_byte-terminator.ensures, c.start.ensures.value) at c.count-passed.ensures)) in
    put-fails g.W.Output.step (Unit {0}) c.args.out.now loop.out _ c.end_piece-in-Some.new.self loop.invariant.text _ _ _
    c.in-Err-end_piece.error loop.invariant.has
    (record {
      same = record { pending = refl; writer = refl; buffer_size = refl };
      writer = refl;
      has_written = refl;
      adds = c.push_part_line.ensures;
    })
    (sym listing.writing.pushed) c.in-Err-end_piece.ensures.put c.in-Err-end_piece.ensures.same

pub loop-part-preserved : goal.loop-part-preserved
loop-part-preserved g c =
    let loop = c.loop-part in
    let layout = c.args.layout.now in
    let report = c.args.report.now in
    let part = c.in-Some.part.now in
    let later = c.in-Some.later.now in
    let next = loop.passed + c.count-passed.result in
    let start = text_before layout c.args.before.now in
    let listing = listing-more layout report start c.args.parts.now loop.invariant.text loop.passed loop.position
    loop.rest.now part later next loop.invariant.listing c.in-Some.ensures.cases.0 (ap (λ n. loop.passed + n)
    (simp (c.as_byte-terminator.ensures, c.start.ensures.value) at c.count-passed.ensures)) in
    let ended = c.in_default-end_piece.ensures in
    rw c.start-position.ensures.value (record {
      text = _;
      has = put-more g.W.Output.step c.args.out.now loop.out _ c.end_piece-in-Some.new.self loop.invariant.text _
          loop.invariant.has
          (record {
            same = record { pending = refl; writer = refl; buffer_size = refl };
            writer = refl;
            has_written = refl;
            adds = c.push_part_line.ensures;
          })
          ended.put ended.same ended.empty ended.has_written;
      kept = ended.put.2;
      listing = listing;
    })
