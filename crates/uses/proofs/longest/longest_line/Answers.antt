use Rattle.std.proofs.Common.{refl, inl, inr, ◌∙◌, None}
use Rattle.std.proofs.lemmas.Result.{err_from_is_err_and}
use Rattle.grep_searcher.specs.Searches.{searched_bytes}
use Rattle.uses.specs.LongestLines.{byte_length}
use Rattle.uses.proofs.longest.longest_line.Goals as goal

pub returns-clause-line : goal.returns-clause-line
returns-clause-line g c = λ by filter. let settings = c.args.searcher.now.settings in
    let handled = c.slices_handle_lines.ensures c.args.matcher c.args.searcher.now c.args.bytes.now _ _ by filter
    c.in_ok-search_slice.ensures.searched in
    rw (c.into_line.ensures ∙ c.into_handler.ensures ∙ handled, c.new-sink.ensures)
    (c.hits_keep_most.ensures (λ line. line) byte_length (λ _ _. (refl, refl)) settings
    (g.M.Matcher.facts c.args.matcher).meaning (searched_bytes settings c.args.bytes.now) None refl)

pub returns-in_err-search_slice-clause-error : goal.returns-in_err-search_slice-clause-error
returns-in_err-search_slice-clause-error g c = λ sound.
    let error = err_from_is_err_and c.from_residual.result c.from_residual.ensures.1 in
    rw (error.1, error.2)
    (elim (c.slices_fail_for.ensures c.args.matcher c.args.searcher.now c.args.bytes.now _ _ _ sound
    c.in_err-search_slice.ensures.searched) [ inl step ↦ inl step.2.1.0 | inr other ↦ inr other ])
