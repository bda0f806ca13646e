use Rattle.std.proofs.Common.{◌≡◌, ◌||◌, length, not, rules, true}
use Rattle.grep_report.specs.SinkReports.{match_bytes}
use Rattle.grep_searcher.specs.Lines.{lines}
use Rattle.grep_printer.specs.SummaryTexts.{counts_on, counts_parts}
use Rattle.grep_printer.proofs.TakenLineLemmas.{match-counted}
use Rattle.grep_printer.proofs.summary.SummaryFormatFormat.push_lines.Goals as goal

pub returns-clause-texts : goal.returns-clause-texts
returns-clause-texts g c = λ taken there.
    let on : counts_on c.args.self.now.config.kind ≡ true = search rules in
    let bare : (c.args.searcher.now.settings.invert_match
    || not (counts_parts c.args.self.now.config.kind)) ≡ true = search rules in
    let many : c.line_count-count.result
    ≡ length (lines c.args.lines.now.terminator (match_bytes c.args.lines.now)) = search rules in
    match-counted (record { path = c.args._path.now; settings = c.args.searcher.now.settings })
    c.args.self.now.config c.args.lines.now _ _ _ _ c.requires.some on bare c.begin.ensures.text
    c.add.ensures many
