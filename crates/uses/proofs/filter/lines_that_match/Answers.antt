use Rattle.std.proofs.Common.{map, refl, sym, inl, inr, ap, ⊎_elim, ◌∙◌}
use Rattle.std.proofs.lemmas.Bool.{false≢true}
use Rattle.std.proofs.lemmas.Result.{err_from_is_err_and}
use Rattle.std.specs.Prelude.{is_some}
use Rattle.grep_searcher.specs.Plans.{reported_bytes}
use Rattle.uses.specs.PlainSettings.{as_it_is}
use Rattle.uses.proofs.filter.lines_that_match.Goals as goal

pub returns-clause-lines : goal.returns-clause-lines
returns-clause-lines g c = λ lawful. let meaning = (g.M.Matcher.facts c.args.matcher).meaning in
    c.into_lines.ensures ∙ c.into_handler.ensures ∙ c.runs_keep_bytes.ensures as_it_is _ _ _
    (rw (c.input_is_searched.ensures.input as_it_is c.args.bytes.now refl refl, c.new-sink.ensures ∙ c.new.ensures) at
    (c.searches_run.ensures c.args.matcher _ c.args.bytes.now _ _ refl lawful
    (rw c.in_ok-searcher.ensures.settings at c.in_ok-search_slice.ensures.searched)))
    ∙ ap (map reported_bytes) (c.lines_are_filtered.ensures.matches as_it_is meaning c.args.bytes.now refl
    (record { unstopped = refl; untrailed = inl refl })) ∙ c.lines_are_filtered.ensures.predicate_lines as_it_is meaning
    c.args.bytes.now (λ line. is_some (meaning.first line)) refl (λ line. refl)

pub returns-in_err-search_slice-clause-error : goal.returns-in_err-search_slice-clause-error
returns-in_err-search_slice-clause-error g c = λ sound. let residual = c.from_residual-in_err-search_slice in
    let error = err_from_is_err_and residual.result residual.ensures.1 in rw (error.1, error.2)
    (⊎_elim (λ step. rw (step.2.1.0.1, step.2.1.0.2) refl) (λ undecoded. absurd (false≢true (sym undecoded.3.0
    ∙ c.input_is_searched.ensures.unchanged as_it_is _ refl refl))) (c.slices_fail.ensures _ _ _ _ _ _ sound
    (rw c.in_ok-searcher.ensures.settings at c.in_err-search_slice.ensures.searched)))

pub returns-in_err-search_slice-clause-failure : goal.returns-in_err-search_slice-clause-failure
returns-in_err-search_slice-clause-failure g c = λ sound. let residual = c.from_residual-in_err-search_slice in
    let error = err_from_is_err_and residual.result residual.ensures.1 in rw (error.1, error.2)
    (⊎_elim (λ step. inl (rw (step.2.1.0.1, step.2.1.0.2) refl)) inr (c.slices_fail_for.ensures _ _ _ _ _ _ sound
    (rw c.in_ok-searcher.ensures.settings at c.in_err-search_slice.ensures.searched)))
