use Rattle.std.proofs.Common.{refl, arith, true, inl, inr}
use Rattle.std.proofs.lemmas.Result.{err_from_is_err_and}
use Rattle.uses.specs.FirstAround.{first_around}
use Rattle.uses.proofs.around.first_with_context.Goals as goal

pub returns-clause-reports : goal.returns-clause-reports
returns-clause-reports g c = λ lawful.
    let kept = c.runs_keep_reports.ensures.all (first_around c.args.n) _ _ _ (c.searches_run.ensures c.args.matcher
    (record { settings = first_around c.args.n; has_buffers = true }) c.args.bytes.now _ _ refl lawful
    (rw c.in_ok-searcher.ensures.settings at c.in_ok-search_slice.ensures.searched)) in
    grind (arith, kept, c.new-sink.ensures, c.into_reports.ensures)

pub returns-in_err-search_slice-clause-error : goal.returns-in_err-search_slice-clause-error
returns-in_err-search_slice-clause-error g c = λ sound. let residual = c.from_residual-in_err-search_slice in
    let error = err_from_is_err_and residual.result residual.ensures.1 in rw (error.1, error.2)
    (elim (c.slices_fail_for.ensures _ _ _ _ _ _ sound (rw c.in_ok-searcher.ensures.settings at
    c.in_err-search_slice.ensures.searched)) [
      | inl step ↦ inl (rw (step.2.1.0.1, step.2.1.0.2) refl)
      | inr other ↦ inr other
    ])
