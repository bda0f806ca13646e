use Rattle.std.proofs.Common.{rules, arith, inl, inr, ⊎_elim}
use Rattle.std.proofs.lemmas.Result.{err_from_is_err_and}
use Rattle.uses.specs.JsonLines.{json_of}
use Rattle.uses.proofs.json.json_lines.Goals as goal

pub returns-clause-lines : goal.returns-clause-lines
returns-clause-lines g c = λ lawful none.
    let kept = c.matches_are_lent.ensures.appended json_of (λ f. f.1.ghost_name) (λ f. f.1.now.items)
    (λ old found b new h. search rules) _ _ _ _
    (c.searches_run.ensures c.args.matcher c.args.searcher.now c.args.bytes.now _ _ none lawful
    c.in_ok-search_slice.ensures.searched) in
    let empty = c.new-text.ensures.items in
    grind (arith, kept, empty)

pub returns-in_err-search_slice-clause-error : goal.returns-in_err-search_slice-clause-error
returns-in_err-search_slice-clause-error g c = λ sound.
    let error = err_from_is_err_and c.from_residual.result c.from_residual.ensures.1 in
    let failed = c.matches_are_lent.ensures.failed c.args.searcher.now.settings in let why = c.slices_fail_for.ensures c.args.matcher
    c.args.searcher.now c.args.bytes.now _ _ _ sound c.in_err-search_slice.ensures.searched in
    rw error.1 (_, error.2, ⊎_elim (λ step. inl (let h = (failed _ _ _ _ step.2).2 in search rules)) inr why)
