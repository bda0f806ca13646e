use Rattle.std.proofs.Common.{[], refl, rules}
use Rattle.grep_output.proofs.OutputLemmas.{Writes-none}
use Rattle.grep_printer.specs.Formats.{PrintedCall}
use Rattle.grep_printer.specs.Reports.{event_call}
use Rattle.grep_printer.proofs.printer.PrinterSink.keep_call.Goals as goal

pub returns-then-keeps_text-clause-kept : goal.returns-then-keeps_text-clause-kept
returns-then-keeps_text-clause-kept g c =
    let old = c.args.self.now in
    let printed : PrintedCall = record {
      call = event_call c.args.event.now;
      parts = c.args.self.now.printer.now.parts.items;
    } in
    record {
      same = record {
        printer = search rules;
        writer = search rules;
        format = search rules;
        buffer_size = search rules;
        matcher = search rules;
        path = search rules;
      };
      printed = printed;
      is_call = refl;
      has_parts = c.requires.found;
      goes_on = search rules;
      put = record {
        bytes = [];
        written = Writes-none g.W.Output.step old.writer.now;
        split = search rules;
      };
      format = search rules;
      has_written = search rules;
      has_failed = search rules;
      at_once = search rules;
      kept = search rules;
      unwritten = search rules;
    }
