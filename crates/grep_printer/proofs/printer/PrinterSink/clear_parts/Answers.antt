use Rattle.std.proofs.Common.{◌&&◌}
use Rattle.grep_printer.proofs.CallPartLemmas.{no-parts}
use Rattle.grep_printer.specs.CallParts.{has_match}
use Rattle.grep_printer.specs.Reports.{event_call}
use Rattle.grep_printer.proofs.printer.PrinterSink.clear_parts.Goals as goal

pub returns-clause-parts : goal.returns-clause-parts
returns-clause-parts g c =
    let settings = c.args.searcher.now.settings in
    let event = c.args.event.now in
    let call = event_call event in
    no-parts (g.M.FindAt.first_at c.args.self.now.matcher) settings (g.M.Matcher.facts c.args.self.now.matcher).meaning
    (has_match settings call && g.F.Format.rules.asks c.args.self.now.format call) event c.clear.new.self.items
    c.requires c.clear.ensures.items
