use Rattle.std.proofs.Common.{◌∙◌, ap, inl, inr, refl}
use Rattle.std.proofs.lemmas.Result.{err_from_is_err_and}
use Rattle.std.specs.Prelude.{not}
use Rattle.uses.specs.PlainSettings.{inverted}
use Rattle.uses.proofs.every.every_line_matches.Goals as goal

pub returns-clause-every : goal.returns-clause-every
returns-clause-every g c = λ lawful.
    let meaning = (g.M.Matcher.facts c.args.matcher).meaning in let bytes = c.args.bytes.now in
    ap not (c.is_found.ensures ∙ c.handler.ensures ∙ c.runs_find_selected.ensures.lines inverted meaning bytes refl _ _
    (c.new-sink.ensures ∙ c.new-found.ensures) (rw (c.input_is_searched.ensures.input inverted bytes refl refl) at
    (c.searches_run.ensures c.args.matcher _ bytes _ _ refl lawful
    (rw c.in_ok-searcher.ensures.settings at c.in_ok-search_slice.ensures.searched))))
    ∙ c.hits_are_selected.ensures.unselected inverted meaning bytes (record { unlimited = refl; unstopped = refl }) refl

pub returns-in_err-search_slice-clause-error : goal.returns-in_err-search_slice-clause-error
returns-in_err-search_slice-clause-error g c = λ sound. let residual = c.from_residual-in_err-search_slice in
    let error = err_from_is_err_and residual.result residual.ensures.1 in rw (error.1, error.2)
    (elim (c.slices_fail_for.ensures c.args.matcher _ c.args.bytes.now _ _ _ sound
    (rw c.in_ok-searcher.ensures.settings at c.in_err-search_slice.ensures.searched))
    [ inl step ↦ absurd step.2.1 | inr other ↦ inr other ])
