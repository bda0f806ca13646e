use Rattle.std.proofs.lemmas.Result.{err_from_is_err_and}
use Rattle.grep_output.proofs.OutputLemmas.{Writes-cut}
use Rattle.grep_output.specs.PendingTexts.{pending_bytes}
use Rattle.grep_printer.proofs.UnkeptLemmas.{after-kept}
use Rattle.grep_printer.specs.BareTexts.{bare_text}
use Rattle.grep_printer.specs.Reports.{event_call}
use Rattle.grep_printer.proofs.printer.Printer.write_kept_and_call.Goals as goal

pub returns-in_err-write_to-clause-written : goal.returns-in_err-write_to-clause-written
returns-in_err-write_to-clause-written g c =
    let error = err_from_is_err_and c.from_residual.result c.from_residual.ensures.1 in
    rw (error.1, error.2) (Writes-cut g.W.Output.step c.args.writer.now c.write_to.new.writer
    (pending_bytes c.args.self.now.pending) (bare_text c.args.terminator (event_call c.args.event.now))
    c.in_err-write_to.field-0.0 c.in_err-write_to.ensures.written)

pub returns-clause-written : goal.returns-clause-written
returns-clause-written g c =
    after-kept g.W.Output.step c.args.writer.now c.write_to.new.writer c.write_call.new.writer
    (pending_bytes c.args.self.now.pending) (bare_text c.args.terminator (event_call c.args.event.now))
    c.write_call.result c.in_ok-write_to.ensures.written c.write_call.ensures
