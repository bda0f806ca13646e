use Rattle.std.proofs.Common.{◌≡◌, ◌∙◌, ◌<◌, ap, length, rules, subst, sym}
use Rattle.std.specs.Prelude.{false}
use Rattle.grep_output.specs.PendingTexts.{Adds}
use Rattle.grep_printer.proofs.PushLemmas.{adds-two}
use Rattle.grep_printer.proofs.VimgrepLemmas.{shown-text}
use Rattle.grep_printer.specs.Formats.{Scene}
use Rattle.grep_printer.specs.Reports.{surroundings_of}
use Rattle.grep_printer.specs.StandardTexts.{is_hidden}
use Rattle.grep_printer.proofs.vimgrep.VimgrepFormatFormat.push.Goals as goal

pub returns-clause-text : goal.returns-clause-text
returns-clause-text g c =
    let lines = c.args.self.now.lines in
    let report = c.in-Report.report in
    let scene : Scene = record { path = c.args.path.now; settings = c.args.searcher.now.settings } in
    let some : 0 < length c.args.parts.now = search rules in
    let shown : is_hidden lines.progress scene.settings.binary_detection ≡ false =
    ap (is_hidden lines.progress) (sym c.binary_detection.ensures) ∙ (sym c.is_hidden.ensures ∙ c.if-is_hidden.false) in
    rw c.in-Report.is (subst (Adds c.args.text.now c.push_part_lines.new.text)
    (sym (shown-text lines.config lines.progress scene c.layout-layout.result report.number report.offset
    report.bytes.now (surroundings_of report) report.kind c.args.parts.now c.layout-layout.ensures some shown))
    (adds-two c.args.text.now c.push_before.new.text c.push_part_lines.new.text _ _ c.push_before.ensures
    c.push_part_lines.ensures))
