use Rattle.std.proofs.Common.{refl, ◌∙◌}
use Rattle.std.proofs.lemmas.Result.{err_from_is_err_and}
use Rattle.grep_searcher.specs.Searches.{searched_bytes}
use Rattle.uses.specs.FirstBytes.{leading_byte}
use Rattle.uses.proofs.bytes.count_first_bytes.Goals as goal

pub returns-clause-counts : goal.returns-clause-counts
returns-clause-counts g c = λ by filter. let settings = c.args.searcher.now.settings in
    let run = c.searches_run.ensures c.args.matcher c.args.searcher.now c.args.bytes.now _ _ by.undetected by.lawful
    c.in_ok-search_slice.ensures.searched in
    rw (c.into_handler-2.view_is ∙ c.into_handler.ensures)
    (c.runs_count_keys.ensures.hits (λ counts. counts) leading_byte (λ _ _. (refl, refl)) settings
    (g.M.Matcher.facts c.args.matcher).meaning (searched_bytes settings c.args.bytes.now) by.by_line filter 256 _ _
    c.new-sink.ensures run)

pub returns-in_err-search_slice-clause-error : goal.returns-in_err-search_slice-clause-error
returns-in_err-search_slice-clause-error g c = λ sound.
    let error = err_from_is_err_and c.from_residual.result c.from_residual.ensures.1 in
    rw (error.1, error.2)
    (c.in_err-search_slice.ensures.succeeds (λ _ _ _ _ _ _ h. h.1) sound.infallible sound.lawful sound.allowed)
