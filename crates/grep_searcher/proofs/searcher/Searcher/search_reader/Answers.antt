use Rattle.std.proofs.Common.{sym, ◌∙◌}
use Rattle.grep_searcher.proofs.SourceSearchLemmas.{not-refused}
use Rattle.grep_searcher.proofs.ViewLemmas.{settings_is}
use Rattle.grep_report.specs.ErrorMakers.{makers_of}
use Rattle.grep_searcher.proofs.searcher.Searcher.search_reader.Goals as goal

pub returns-clause-searched : goal.returns-clause-searched
returns-clause-searched g c =
    let errors = makers_of g.M.Error.Display.output g.S.Error.SinkError.makers in
    let facts = g.M.Matcher.facts c.args.matcher in
    let allowed = rw (settings_is c.self.view_is) at (sym c.refusal.ensures ∙ c.in_default.is) in
    not-refused errors facts c.args.self.now.settings allowed c.args.sink.now c.search_source.result
    c.search_source.new.sink _ _ c.search_source.ensures.searched
