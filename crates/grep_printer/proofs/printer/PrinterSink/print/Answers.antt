use Rattle.std.proofs.Common.{Ok}
use Rattle.grep_printer.proofs.UnprintedLemmas.{before-more, before-parts, printed-from}
use Rattle.grep_printer.specs.PrinterSteps.{IsPreparing}
use Rattle.grep_printer.specs.Reports.{event_call}
use Rattle.grep_printer.proofs.printer.PrinterSink.print.Goals as goal
use Rattle.grep_printer.proofs.printer.PrinterSink.print.Goals.{else-asks, then-asks+in_default+else-len-gt-MANY_PARTS}

pub returns-then-len-gt-MANY_PARTS-clause-step : goal.returns-then-len-gt-MANY_PARTS-clause-step
returns-then-len-gt-MANY_PARTS-clause-step g c =
    let old = c.args.self.now in
    let mid = c.find_parts.new.self in
    printed-from g.F.Format.rules g.M.Error.Display.output g.M.Matcher.facts g.M.FindAt.first_at g.W.Output.step
    old mid (before-parts old mid c.find_parts.ensures.same) c.args.searcher.now.settings
    (event_call c.args.event.now) c.put_call.result c.put_call.new.self c.put_call.ensures.step

pub returns-in-Some-clause-step : goal.returns-in-Some-clause-step
returns-in-Some-clause-step g c =
    let old = c.args.self.now in
    let mid = c.if-asks.self in
    let same : IsPreparing old mid = elim c.if-asks.branch [
      | then-asks+in_default+else-len-gt-MANY_PARTS w ↦ rw w.self-is w.find_parts.ensures.same
      | else-asks w ↦ rw w.self-is w.clear_parts.ensures.same
    ] in
    printed-from g.F.Format.rules g.M.Error.Display.output g.M.Matcher.facts g.M.FindAt.first_at g.W.Output.step
    old mid (before-parts old mid same) c.args.searcher.now.settings (event_call c.args.event.now)
    (Ok c.in-Some.goes_on) c.keep_call.new.self c.in-Some.ensures.kept

pub returns-clause-step : goal.returns-clause-step
returns-clause-step g c =
    let old = c.args.self.now in
    let mid = c.if-asks.self in
    let now = c.keep_call.new.self in
    let same : IsPreparing old mid = elim c.if-asks.branch [
      | then-asks+in_default+else-len-gt-MANY_PARTS w ↦ rw w.self-is w.find_parts.ensures.same
      | else-asks w ↦ rw w.self-is w.clear_parts.ensures.same
    ] in
    printed-from g.F.Format.rules g.M.Error.Display.output g.M.Matcher.facts g.M.FindAt.first_at g.W.Output.step
    old now (before-more old mid now (before-parts old mid same) c.in_default-keep_call.ensures.unkept)
    c.args.searcher.now.settings (event_call c.args.event.now) c.print_call.result c.print_call.new.self
    c.print_call.ensures.step
