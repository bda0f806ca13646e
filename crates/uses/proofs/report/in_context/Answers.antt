use Rattle.std.proofs.Common.{rules, arith, inl, inr, ⊎_elim}
use Rattle.std.proofs.lemmas.Result.{err_from_is_err_and}
use Rattle.uses.specs.MarkedCalls.{marked_text}
use Rattle.uses.proofs.report.in_context.Goals as goal

pub returns-clause-report : goal.returns-clause-report
returns-clause-report g c = λ lawful none.
    let kept = c.calls_are_passed.ensures.appended marked_text (λ f. f.0.ghost_name) (λ f. f.0.now.items)
    (λ old passed b new h. search rules) _ _ _ _
    (c.searches_run.ensures c.args.matcher c.args.searcher.now c.args.bytes.now _ _ none lawful
    c.in_ok-search_slice.ensures.searched) in
    let empty = c.new-text.ensures.items in
    grind (arith, kept, empty)

pub returns-in_err-search_slice-clause-error : goal.returns-in_err-search_slice-clause-error
returns-in_err-search_slice-clause-error g c = λ sound.
    let error = err_from_is_err_and c.from_residual.result c.from_residual.ensures.1 in
    let failed = c.calls_are_passed.ensures.failed c.args.searcher.now.settings in let why = c.slices_fail_for.ensures c.args.matcher
    c.args.searcher.now c.args.bytes.now _ _ _ sound c.in_err-search_slice.ensures.searched in
    rw error.1 (_, error.2, ⊎_elim (λ step. inl (let h = (failed _ _ _ _ step.2).2 in search rules)) inr why)
