use Rattle.std.proofs.Common.{map, inl, inr, ap, ◌∙◌}
use Rattle.std.proofs.lemmas.Result.{err_from_is_err_and}
use Rattle.grep_searcher.specs.MatchHandlers.{kept_of, last_items, LastReports}
use Rattle.uses.proofs.last.last_matches.Goals as goal

pub returns-clause-lines : goal.returns-clause-lines
returns-clause-lines g c = λ input all by filter.
    let run = c.known_readers_run.ensures c.args.matcher c.args.searcher.now c.args.reader.now input _ _ _ by.undetected
    all by.lawful c.in_ok-search_reader.ensures.searched in
    c.into_matches.ensures ∙ ap (λ (last : LastReports). last.kept) (c.into_handler.ensures
    ∙ c.runs_keep_last.ensures _ _ _ _ _ (c.new-sink.ensures ∙ c.new.ensures) run)
    ∙ ap (λ calls. last_items c.args.n (map kept_of calls))
    (c.lines_are_filtered.ensures.matches _ (g.M.Matcher.facts c.args.matcher).meaning _ by.by_line filter)

pub returns-in_err-search_reader-clause-error : goal.returns-in_err-search_reader-clause-error
returns-in_err-search_reader-clause-error g c = λ sound.
    let error = err_from_is_err_and c.from_residual.result c.from_residual.ensures.1 in
    rw (error.1, error.2)
    (elim (c.readers_fail.ensures c.args.matcher c.args.searcher.now c.args.reader.now _ _ _ _ sound
    c.in_err-search_reader.ensures.searched) [ inl step ↦ inl step.2.1.0 | inr unread ↦ inr unread ])
