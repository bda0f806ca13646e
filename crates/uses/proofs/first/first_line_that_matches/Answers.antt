use Rattle.std.proofs.Common.{true, arith, refl, inl, inr, ap, sym, ⊎_elim, ◌∙◌}
use Rattle.std.proofs.lemmas.Result.{err_from_is_err_and}
use Rattle.std.specs.List.{slice_get}
use Rattle.grep_searcher.specs.MatchHandlers.{FirstReports}
use Rattle.uses.specs.PlainSettings.{held_to}
use Rattle.uses.proofs.first.first_line_that_matches.Goals as goal

pub returns-clause-line : goal.returns-clause-line
returns-clause-line g c = λ input all lawful. let plain = held_to c.args.limit in
    let kept = rw (c.input_is_searched.ensures.input plain input refl refl) at (c.readers_keep_first.ensures
    c.args.matcher (record { settings = plain; has_buffers = true }) c.args.reader.now input 1 _ _ _
    (record { lawful = lawful; by_line = refl; undetected = refl }) (record { unstopped = refl; untrailed = inl refl })
    (c.new-sink.ensures ∙ c.new.ensures) all (rw c.in_ok-searcher.ensures.settings at
    c.in_ok-search_reader.ensures.searched)) in
    let is = c.into_first.ensures ∙ ap (λ (first : FirstReports). slice_get first.kept 0) (c.into_handler.ensures)
    ∙ kept.2 (omega arith) in let as_it_is = c.input_is_searched.ensures.unchanged plain input refl refl in
    (is, λ line found. kept.1 c.args.limit line (omega arith) refl as_it_is (sym is ∙ found))

pub returns-in_err-search_reader-clause-error : goal.returns-in_err-search_reader-clause-error
returns-in_err-search_reader-clause-error g c = λ sound. let residual = c.from_residual-in_err-search_reader in
    let error = err_from_is_err_and residual.result residual.ensures.1 in rw (error.1, error.2)
    (⊎_elim (λ step. inl (rw (step.2.1.0.1, step.2.1.0.2) refl)) inr (c.readers_fail.ensures _ _ _ _ _ _ _ sound
    (rw c.in_ok-searcher.ensures.settings at c.in_err-search_reader.ensures.searched)))

pub returns-in_err-search_reader-clause-failure : goal.returns-in_err-search_reader-clause-failure
returns-in_err-search_reader-clause-failure g c = λ sound. let residual = c.from_residual-in_err-search_reader in
    let error = err_from_is_err_and residual.result residual.ensures.1 in rw (error.1, error.2)
    (⊎_elim (λ step. inl (rw (step.2.1.0.1, step.2.1.0.2) refl)) inr (c.readers_fail_for.ensures c.args.matcher
    _ _ _ _ _ _ sound (rw c.in_ok-searcher.ensures.settings at c.in_err-search_reader.ensures.searched)))
