use Rattle.std.proofs.Common.{◌≡◌, ◌∙◌, ◌<◌, ap, length, rules, subst, sym}
use Rattle.std.specs.Prelude.{Bool, Err, false}
use Rattle.grep_printer.proofs.TextWriterLemmas.{fails-alike}
use Rattle.grep_printer.proofs.VimgrepLemmas.{shown-text}
use Rattle.grep_printer.specs.Formats.{Scene}
use Rattle.grep_printer.specs.Reports.{event_call, surroundings_of}
use Rattle.grep_printer.specs.StandardTexts.{is_hidden}
use Rattle.grep_printer.specs.TextWriters.{PutsInPieces, PutsText}
use Rattle.grep_printer.specs.VimgrepTexts.{vimgrep_text}
use Rattle.grep_printer.proofs.vimgrep.VimgrepFormatFormat.put_in_pieces.Goals as goal

pub returns-in-Ok-clause-put : goal.returns-in-Ok-clause-put
returns-in-Ok-clause-put g c =
    let lines = c.args.self.now.lines in
    let report = c.in-Report.report in
    let scene : Scene = record { path = c.args.path.now; settings = c.args.searcher.now.settings } in
    let some : 0 < length c.args.parts.now = search rules in
    let shown : is_hidden lines.progress scene.settings.binary_detection ≡ false =
    ap (is_hidden lines.progress) (sym c.binary_detection.ensures) ∙ (sym c.is_hidden.ensures ∙ c.if-is_hidden.false) in
    rw c.in-Report.is (subst (λ text. PutsText g.W.Output.step c.args.out.now text c.put_part_lines.new.out)
    (sym (shown-text lines.config lines.progress scene c.layout-layout.result report.number report.offset
    report.bytes.now (surroundings_of report) report.kind c.args.parts.now c.layout-layout.ensures some shown)) c.in-Ok.ensures)

pub returns-in-Err-clause-put : goal.returns-in-Err-clause-put
returns-in-Err-clause-put g c =
    let lines = c.args.self.now.lines in
    let report = c.in-Report.report in
    let scene : Scene = record { path = c.args.path.now; settings = c.args.searcher.now.settings } in
    let some : 0 < length c.args.parts.now = search rules in
    let shown : is_hidden lines.progress scene.settings.binary_detection ≡ false =
    ap (is_hidden lines.progress) (sym c.binary_detection.ensures) ∙ (sym c.is_hidden.ensures ∙ c.if-is_hidden.false) in
    fails-alike g.W.Output.step (Unit {0}) Bool c.args.out.now c.put_part_lines.new.out
    (vimgrep_text lines.config lines.progress scene (event_call c.args.event.now) c.args.parts.now) c.in-Err.error
    (subst (λ event. PutsInPieces g.W.Output.step {T = Unit {0}} c.args.out.now
    (vimgrep_text lines.config lines.progress scene (event_call event) c.args.parts.now) (Err c.in-Err.error)
    c.put_part_lines.new.out) (sym c.in-Report.is)
    (subst (λ text. PutsInPieces g.W.Output.step {T = Unit {0}} c.args.out.now text (Err c.in-Err.error)
    c.put_part_lines.new.out)
    (sym (shown-text lines.config lines.progress scene c.layout-layout.result report.number report.offset
    report.bytes.now (surroundings_of report) report.kind c.args.parts.now c.layout-layout.ensures some shown)) c.in-Err.ensures))
