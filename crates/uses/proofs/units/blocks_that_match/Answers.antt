use Rattle.std.proofs.Common.{ap, inl, inr, map, ◌∙◌}
use Rattle.std.proofs.lemmas.Result.{err_from_is_err_and}
use Rattle.grep_searcher.specs.MatchHandlers.{kept_of}
use Rattle.grep_searcher.specs.Searches.{searched_bytes}
use Rattle.uses.proofs.units.blocks_that_match.Goals as goal

pub returns-clause-blocks : goal.returns-clause-blocks
returns-clause-blocks g c = λ lawful undetected across. let settings = c.args.searcher.now.settings in
    c.into_matches.ensures ∙ c.into_handler.ensures ∙ c.runs_collect_lines.ensures.all settings _ _ _
    (rw (c.new-sink.ensures ∙ c.new.ensures) at (c.searches_run.ensures c.args.matcher c.args.searcher.now
    c.args.bytes.now _ _ undetected lawful c.in_ok-search_slice.ensures.searched))
    ∙ ap (map kept_of) (c.matches_are_units.ensures.all settings (g.M.Matcher.facts c.args.matcher).meaning
    (searched_bytes settings c.args.bytes.now) across)

pub returns-in_err-search_slice-clause-error : goal.returns-in_err-search_slice-clause-error
returns-in_err-search_slice-clause-error g c = λ sound.
    let error = err_from_is_err_and c.from_residual.result c.from_residual.ensures.1 in rw (error.1, error.2)
    (elim (c.slices_fail_for.ensures c.args.matcher c.args.searcher.now c.args.bytes.now _ _ _ sound
    c.in_err-search_slice.ensures.searched) [ inl step ↦ inl step.2.1.0 | inr other ↦ inr other ])
