use Rattle.std.proofs.Common.{[], ◌∷◌, ◌∙◌, inl, inr, refl}
use Rattle.std.proofs.lemmas.List.Concat.{flat_map_single}
use Rattle.std.proofs.lemmas.Result.{err_from_is_err_and}
use Rattle.grep_searcher.specs.Searches.{searched_bytes}
use Rattle.uses.specs.LineSpans.{span_of}
use Rattle.uses.proofs.spans.matching_spans.Goals as goal

pub returns-clause-spans : goal.returns-clause-spans
returns-clause-spans g c = λ by. let settings = c.args.searcher.now.settings in
    c.into_spans.ensures ∙ c.into_handler.ensures ∙ c.runs_append_matches.ensures.lines (λ spans. spans)
    (λ found. span_of found ∷ []) (λ _ _. (refl, refl)) settings (g.M.Matcher.facts c.args.matcher).meaning
    (searched_bytes settings c.args.bytes.now) by.by_line _ _ (c.searches_run.ensures c.args.matcher
    c.args.searcher.now c.args.bytes.now _ _ by.undetected by.lawful c.in_ok-search_slice.ensures.searched)
    ∙ rw (c.new-sink.ensures, c.new.ensures.items) (flat_map_single _ _)

pub returns-in_err-search_slice-clause-error : goal.returns-in_err-search_slice-clause-error
returns-in_err-search_slice-clause-error g c = λ sound.
    let error = err_from_is_err_and c.from_residual.result c.from_residual.ensures.1 in
    rw (error.1, error.2)
    (elim (c.slices_fail_for.ensures c.args.matcher c.args.searcher.now c.args.bytes.now _ _ _ sound
    c.in_err-search_slice.ensures.searched) [ inl step ↦ inl step.2.1.0 | inr other ↦ inr other ])
