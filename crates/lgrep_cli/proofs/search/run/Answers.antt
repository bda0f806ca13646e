use Rattle.std.proofs.Common.{rules}
use Rattle.std.specs.Prelude.{Ok, Err}
use Rattle.grep_output.specs.Outputs.{flushes}
use Rattle.lgrep_cli.specs.ProgramRuns.{of_flush}
use Rattle.lgrep_cli.proofs.SearchLemmas.{printed-run}
use Rattle.lgrep_cli.proofs.search.run.Goals as goal

pub returns-in-Err : goal.returns-in-Err
returns-in-Err g c =
    let printed = c.in_ok-found.ensures.printed in
    let flushed : g.W.Output.step c.write_text.new.writer (flushes (Err c.in-Err.error)) c.flush.new.self =
    search rules in
    record { printed = tt; whole = tt; failed = of_flush printed.taken printed.written flushed }

pub returns-in-Ok : goal.returns-in-Ok
returns-in-Ok g c =
    let printed = c.in_ok-found.ensures.printed in
    let flushed : g.W.Output.step c.write_text.new.writer (flushes (Ok tt)) c.flush.new.self = search rules in
    printed-run g.R.Source.remaining g.R.Source.step g.W.Output.step g.W.Output.contents g.met.W.Output.grows
    c.args.options.now c.args.reader.now c.args.writer.now c.in_ok-found.found c.write_text.new.reader c.flush.new.self
    (record { unflushed = c.write_text.new.writer; printed = printed; flushed = flushed })
