use Rattle.grep_searcher.specs.SinkArguments.{context_call}
use Rattle.grep_printer.proofs.UnprintedLemmas.{printed-from}
use Rattle.grep_printer.proofs.printer.PrinterSinkSink.context.Goals as goal

pub returns-clause-step : goal.returns-clause-step
returns-clause-step g c =
    printed-from g.F.Format.rules g.M.Error.Display.output g.M.Matcher.facts g.M.FindAt.first_at g.W.Output.step
    c.args.self.now c.keep.new.self c.in_default.ensures.unkept c.args.searcher.now.settings
    (context_call c.args.line.now) c.print_context.result c.print_context.new.self c.print_context.ensures
