use Rattle.std.proofs.Common.{◌≡◌, [], inl, refl, rules}
use Rattle.std.specs.Prelude.{true}
use Rattle.grep_output.specs.PendingTexts.{pending_bytes}
use Rattle.grep_searcher.specs.Lines.{byte_of}
use Rattle.grep_printer.proofs.UnkeptLemmas.{none-if-empty}
use Rattle.grep_printer.specs.BareTexts.{bare_text}
use Rattle.grep_printer.specs.Formats.{PrintedCall}
use Rattle.grep_printer.specs.PrinterSteps.{scene_of}
use Rattle.grep_printer.specs.Reports.{event_call}
use Rattle.grep_printer.proofs.printer.PrinterSink.print_call.Goals as goal

pub returns-in-Err-clause-step : goal.returns-in-Err-clause-step
returns-in-Err-clause-step g c =
    let settings = c.args.searcher.now.settings in
    let old = c.args.self.now in
    let call = event_call c.args.event.now in
    let printed : PrintedCall = record {
      call = call;
      parts = c.args.self.now.printer.now.parts.items;
    } in
    let bare : c.is_bare.result ≡ true = search rules in
    let none : printed.parts ≡ [] = none-if-empty printed.parts (search rules) in
    let text : g.F.Format.rules.text old.format (scene_of old settings) printed
    ≡ bare_text (byte_of settings.line_terminator) call = search rules in
    let kept : pending_bytes c.cancel.new.self ≡ pending_bytes old.printer.now.pending = search rules in
    let written = c.in-Err.ensures.written in
    record {
      same = record {
        printer = search rules;
        writer = search rules;
        format = search rules;
        buffer_size = search rules;
        matcher = search rules;
        path = search rules;
      };
      has_written = search rules;
      cause = inl (record {
        printed = printed;
        is_call = refl;
        has_parts = c.requires.found;
        error = c.in-Err.error;
        is_io = refl;
        failed = search rules;
        pending = search rules;
        format = search rules;
        has_failed = search rules;
      });
    }
