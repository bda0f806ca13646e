use Rattle.std.proofs.Common.{[], refl, rules}
use Rattle.grep_output.proofs.OutputLemmas.{Writes-none}
use Rattle.grep_printer.proofs.UnprintedLemmas.{printed-from}
use Rattle.grep_printer.specs.Formats.{PrintedCall}
use Rattle.grep_printer.specs.Reports.{event_call}
use Rattle.grep_printer.proofs.printer.PrinterSink.put_whole.Goals as goal

pub returns-in_default-clause-step : goal.returns-in_default-clause-step
returns-in_default-clause-step g c =
    printed-from g.F.Format.rules g.M.Error.Display.output g.M.Matcher.facts g.M.FindAt.first_at g.W.Output.step
    c.args.self.now c.push_call.new.self c.in_default.ensures.unpushed
    c.args.searcher.now.settings (event_call c.args.event.now) c.print_call.result c.print_call.new.self
    c.print_call.ensures.step

pub returns-then-keeps_text-clause-step : goal.returns-then-keeps_text-clause-step
returns-then-keeps_text-clause-step g c =
    let old = c.args.self.now in
    let printed : PrintedCall = record {
      call = event_call c.args.event.now;
      parts = c.args.self.now.printer.now.parts.items;
    } in
    record {
      same = record {
        printer = search rules;
        writer = search rules;
        format = search rules;
        buffer_size = search rules;
        matcher = search rules;
        path = search rules;
      };
      printed = printed;
      is_call = refl;
      has_parts = c.requires.found;
      goes_on = search rules;
      put = record {
        bytes = [];
        written = search rules;
        split = search rules;
      };
      format = search rules;
      has_written = search rules;
      has_failed = search rules;
      at_once = search rules;
      kept = search rules;
      unwritten = search rules;
    }
