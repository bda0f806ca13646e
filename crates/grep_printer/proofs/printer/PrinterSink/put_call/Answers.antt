use Rattle.grep_printer.proofs.UnprintedLemmas.{printed-from}
use Rattle.grep_printer.specs.Reports.{event_call}
use Rattle.grep_printer.proofs.printer.PrinterSink.put_call.Goals as goal

pub returns-clause-step : goal.returns-clause-step
returns-clause-step g c =
    printed-from g.F.Format.rules g.M.Error.Display.output g.M.Matcher.facts g.M.FindAt.first_at g.W.Output.step
    c.args.self.now c.put_in_pieces.new.self c.in_default.ensures.unput
    c.args.searcher.now.settings (event_call c.args.event.now) c.put_whole.result c.put_whole.new.self
    c.put_whole.ensures.step
