use Rattle.std.proofs.Common.{sym, ◌∙◌}
use Rattle.grep_searcher.proofs.InputSearchLemmas.{slice-refused}
use Rattle.grep_searcher.proofs.ViewLemmas.{settings_is}
use Rattle.grep_report.specs.ErrorMakers.{makers_of}
use Rattle.grep_searcher.proofs.searcher.Searcher.search_slice.Goals as goal

pub returns-in-Some-clause-searched : goal.returns-in-Some-clause-searched
returns-in-Some-clause-searched g c =
    let errors = makers_of g.M.Error.Display.output g.S.Error.SinkError.makers in
    let facts = g.M.Matcher.facts c.args.matcher in
    slice-refused g.S.Sink.step errors facts c.args.self.now c.args.bytes.now _
    (rw (settings_is c.self.view_is) at (sym c.refusal.ensures ∙ c.in-Some.is)) c.args.sink.now _
    c.error_config.ensures

pub returns-clause-searched : goal.returns-clause-searched
returns-clause-searched g c =
    c.search_input.ensures.searched (rw (settings_is c.self.view_is) at (sym c.refusal.ensures
    ∙ c.in-None.is))
