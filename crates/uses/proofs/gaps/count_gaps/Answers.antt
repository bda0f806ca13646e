use Rattle.std.proofs.Common.{refl, ◌∙◌}
use Rattle.std.proofs.lemmas.Result.{err_from_is_err_and}
use Rattle.grep_searcher.specs.Plans.{is_break}
use Rattle.grep_searcher.specs.Searches.{searched_bytes}
use Rattle.uses.proofs.gaps.count_gaps.Goals as goal

pub returns-clause-breaks : goal.returns-clause-breaks
returns-clause-breaks g c = λ lawful none. let settings = c.args.searcher.now.settings in
    c.sink.view_is ∙ c.runs_count_exactly.ensures is_break (λ count. count) (λ _ _. refl) (λ _ _ _ _ _ h. h) _ _ _ _
    refl (c.breaks_are_gaps.ensures.few settings (g.M.Matcher.facts c.args.matcher).meaning
    (searched_bytes settings c.args.bytes.now)) (c.searches_run.ensures c.args.matcher c.args.searcher.now
    c.args.bytes.now _ _ none lawful c.in_ok-search_slice.ensures.searched)

pub returns-clause-gaps : goal.returns-clause-gaps
returns-clause-gaps g c = λ lawful none near. let settings = c.args.searcher.now.settings in
    returns-clause-breaks g c lawful none ∙ c.breaks_are_gaps.ensures.counted settings
    (g.M.Matcher.facts c.args.matcher).meaning (searched_bytes settings c.args.bytes.now) near

pub returns-in_err-search_slice-clause-error : goal.returns-in_err-search_slice-clause-error
returns-in_err-search_slice-clause-error g c = λ sound.
    let error = err_from_is_err_and c.from_residual.result c.from_residual.ensures.1 in
    rw (error.1, error.2)
    (c.in_err-search_slice.ensures.succeeds (λ _ _ _ _ _ _ h. h) sound.infallible sound.lawful sound.allowed)
