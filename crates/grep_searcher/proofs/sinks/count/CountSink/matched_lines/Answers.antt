use Rattle.std.proofs.Common.{◌≡◌, ◌<◌, ◌+◌, ◌-◌, ◌^◌, length, min, rules, subst, sym}
use Rattle.grep_definitions.specs.MatchedLines.{calls_of_match}
use Rattle.grep_definitions.specs.Plans.{AreMade, all_true}
use Rattle.grep_matcher.specs.Lines.{lines}
use Rattle.grep_report.specs.SinkReports.{match_bytes}
use Rattle.grep_searcher.proofs.CountSinkLemmas.{match-counted}
use Rattle.grep_searcher.specs.CountSinks.{IsCountStep}
use Rattle.grep_searcher.proofs.sinks.count.CountSink.matched_lines.Goals as goal

pub returns-clause-taken : goal.returns-clause-taken
returns-clause-taken g c =
    let m = c.args.lines.now in
    let some : 0 < length (match_bytes m) = search rules in
    let is : c.saturating_add-self-inside.result
    ≡ min (c.args.self.now + length (lines m.terminator (match_bytes m))) (2 ^ 64 - 1) =
    search rules in
    subst (AreMade IsCountStep c.args.searcher.now.settings c.args.self.now (calls_of_match m)
    all_true) (sym is)
    (match-counted g.row.E.Denot c.args.searcher.now.settings m c.args.self.now some)
