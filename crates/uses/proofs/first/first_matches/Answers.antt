use Rattle.std.proofs.Common.{ap, ◌∙◌}
use Rattle.grep_searcher.specs.MatchHandlers.{FirstReports}
use Rattle.uses.proofs.first.first_matches.Goals as goal

pub returns-clause-lines : goal.returns-clause-lines
returns-clause-lines g c = λ by.
    let run = c.reader_searches_run.ensures c.args.matcher c.args.searcher.now c.args.reader.now _ _ _ by.undetected
    by.lawful c.in_ok-search_reader.ensures.searched in (
      run.0.taken,
      λ bytes input. c.into_matches.ensures ∙ ap (λ (first : FirstReports). first.kept) (c.into_handler.ensures
          ∙ c.runs_keep_first.ensures.lines c.args.searcher.now.settings (g.M.Matcher.facts c.args.matcher).meaning bytes
          by.by_line _ _ _ (c.new-sink.ensures ∙ c.new.ensures) (run.1 bytes input)),
    )
