use Rattle.std.proofs.Common.{◌&&◌}
use Rattle.std.proofs.lemmas.Result.{on_ok_weaker}
use Rattle.grep_printer.proofs.CallPartLemmas.{found-parts}
use Rattle.grep_printer.specs.CallParts.{has_match}
use Rattle.grep_printer.specs.Reports.{event_call}
use Rattle.grep_printer.proofs.printer.PrinterSink.find_parts.Goals as goal

pub returns-in-Report-clause-parts : goal.returns-in-Report-clause-parts
returns-in-Report-clause-parts g c =
    let settings = c.args.searcher.now.settings in
    let event = c.args.event.now in
    let call = event_call event in
    on_ok_weaker c.find_report_parts.result (found-parts (g.M.FindAt.first_at c.args.self.now.matcher) settings
    (g.M.Matcher.facts c.args.self.now.matcher).meaning
    (has_match settings call && g.F.Format.rules.asks c.args.self.now.format call) event c.in-Report.report
    c.find_report_parts.new.parts.items c.in-Report.is c.requires.asked) c.find_report_parts.ensures.parts
