use Rattle.std.proofs.Common.{◌∙◌, sym}
use Rattle.grep_printer.proofs.CallPartLemmas.{across-asked}
use Rattle.grep_printer.proofs.replaced.Replacement.of_report.Goals as goal

pub returns-then-multi_line_with_matcher-clause-asked :
    goal.returns-then-multi_line_with_matcher-clause-asked
returns-then-multi_line_with_matcher-clause-asked g c =
    let report = c.args.report.now in
    let across = sym c.multi_line_with_matcher.ensures ∙ c.if-multi_line_with_matcher.true in
    sym (across-asked report.number report.offset report.bytes.now report.shown.now report.start
    c.args.searcher.now.settings (g.M.Matcher.facts c.args.matcher).meaning (g.M.FindAt.first_at c.args.matcher)
    report.kind c.requires.shown across)
