use Rattle.std.proofs.Common.{ap, arith, inl, inr}
use Rattle.std.proofs.lemmas.Result.{err_from_is_err_and}
use Rattle.uses.specs.LabelledLines.{LabelledText, labelled}
use Rattle.uses.proofs.labels.labelled_lines.Goals as goal

pub returns-clause-text : goal.returns-clause-text
returns-clause-text g c = λ lawful undetected.
    let text = λ (s : LabelledText). s.text in let part = λ (s : LabelledText). labelled s.label in
    let kept = c.runs_append_by_state.ensures text part
    (λ _ _ _ _ _ h. (h.0, ap text h.1, λ other. ap (λ (s : LabelledText). part s other) h.1)) _ _ _ _
    (c.searches_run.ensures c.args.matcher c.args.searcher.now c.args.bytes.now _ _ undetected lawful
    c.in_ok-search_slice.ensures.searched) in
    grind (arith, kept, c.new.ensures.items, c.into_text.ensures)

pub returns-in_err-search_slice-clause-error : goal.returns-in_err-search_slice-clause-error
returns-in_err-search_slice-clause-error g c = λ sound.
    let error = err_from_is_err_and c.from_residual.result c.from_residual.ensures.1 in
    rw (error.1, error.2)
    (elim (c.slices_fail_for.ensures c.args.matcher c.args.searcher.now c.args.bytes.now _ _ _ sound
    c.in_err-search_slice.ensures.searched) [ inl step ↦ inl step.2 | inr other ↦ inr other ])
