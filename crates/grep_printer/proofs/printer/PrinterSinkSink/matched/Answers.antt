use Rattle.std.proofs.Common.{subst}
use Rattle.grep_searcher.specs.Plans.{Call}
use Rattle.grep_printer.specs.PrinterSteps.{PrintsCall}
use Rattle.grep_printer.proofs.printer.PrinterSinkSink.matched.Goals as goal

pub returns-clause-step : goal.returns-clause-step
returns-clause-step g c =
    subst (λ (call : Call). PrintsCall g.F.Format.rules g.M.Error.Display.output g.M.Matcher.facts g.M.FindAt.first_at
    g.W.Output.step c.args.self.now c.args.searcher.now.settings call
    c.print.result c.print.new.self) c.of_match.ensures.call c.print.ensures.step
