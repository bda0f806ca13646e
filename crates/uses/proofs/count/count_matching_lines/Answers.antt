use Rattle.std.proofs.Common.{⊎_elim, ◌∙◌}
use Rattle.std.proofs.lemmas.Result.{err_from_is_err_and}
use Rattle.uses.proofs.count.count_matching_lines.Goals as goal

pub returns-clause-count : goal.returns-clause-count
returns-clause-count g c = λ by. c.count.ensures
    ∙ c.slices_count_lines.ensures c.args.matcher c.args.searcher.now c.args.bytes.now _ _ by c.new-matches.ensures
    c.in_ok-search_slice.ensures.searched

pub returns-in_err-search_slice-clause-error : goal.returns-in_err-search_slice-clause-error
returns-in_err-search_slice-clause-error g c = λ sound.
    let error = err_from_is_err_and c.from_residual.result c.from_residual.ensures.1 in
    rw (error.1, error.2)
    (c.in_err-search_slice.ensures.succeeds (λ _ _ _ _ _ _ h. h.1) sound.infallible sound.lawful sound.allowed)

pub returns-in_err-search_slice-clause-failure : goal.returns-in_err-search_slice-clause-failure
returns-in_err-search_slice-clause-failure g c = λ sound.
    let error = err_from_is_err_and c.from_residual.result c.from_residual.ensures.1 in rw (error.1, error.2)
    (⊎_elim (λ step. absurd step.2.1) (λ other. other) (c.slices_fail_for.ensures c.args.matcher
    c.args.searcher.now c.args.bytes.now _ _ _ sound c.in_err-search_slice.ensures.searched))
