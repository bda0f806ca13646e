use Rattle.std.proofs.Common.{◌<◌, ◌++◌, ap, length, refl, rules}
use Rattle.grep_report.specs.SinkReports.{match_bytes}
use Rattle.grep_printer.proofs.TakenCallLemmas.{match-kept}
use Rattle.grep_printer.proofs.printer.PrinterSinkSink.matched_lines.Goals as goal

pub returns-clause-taken : goal.returns-clause-taken
returns-clause-taken g c =
    let some : 0 < length (match_bytes c.args.lines.now) = search rules in
    match-kept g.F.Format.rules g.M.Error.Display.output g.M.Matcher.facts g.M.FindAt.first_at
    g.W.Output.step c.args.searcher.now.settings c.args.self.now _ c.args.lines.now
    c.push_lines.new.text.text c.push_lines.new.self some (search rules) (record {
      same = record { printer = refl; writer = refl; format = refl; buffer_size = refl; matcher = refl; path = refl };
      writer = refl;
      pending = search rules;
      format = refl;
      has_written = search rules;
      has_failed = refl;
    }) (search rules)

pub returns-clause-room : goal.returns-clause-room
returns-clause-room g c = λ taken. (
  c.push_lines.new.text.text,
  ap (λ before. before ++ c.push_lines.new.text.text) (c.if-not-push_lines.ensures.before refl),
)
