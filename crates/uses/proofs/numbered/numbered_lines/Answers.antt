use Rattle.std.proofs.Common.{rules, arith, ap, refl, inl, inr, ⊎_elim}
use Rattle.std.proofs.lemmas.Result.{err_from_is_err_and}
use Rattle.grep_searcher.specs.Searches.{searched_bytes}
use Rattle.uses.specs.NumberedTexts.{texts_of}
use Rattle.uses.proofs.numbered.numbered_lines.Goals as goal

pub returns-clause-lines : goal.returns-clause-lines
returns-clause-lines g c = λ by.
    let settings = c.args.searcher.now.settings in
    let kept = c.closures_keep_calls.ensures (λ f. f.0.ghost_name) (λ f. texts_of f.0.now.items)
    (λ old number text b new h. search rules) settings (g.M.Matcher.facts c.args.matcher).meaning
    (searched_bytes settings c.args.bytes.now) by.by_line _ refl _ _ (c.searches_run.ensures c.args.matcher
    c.args.searcher.now c.args.bytes.now _ _ by.undetected by.lawful c.in_ok-search_slice.ensures.searched) in
    let empty = ap texts_of c.new-lines.ensures.items in
    grind (arith, kept, empty)

pub returns-in_err-search_slice-clause-error : goal.returns-in_err-search_slice-clause-error
returns-in_err-search_slice-clause-error g c = λ sound.
    let error = err_from_is_err_and c.from_residual.result c.from_residual.ensures.1 in rw (error.1, error.2)
    (⊎_elim (λ step. inl (⊎_elim (λ text. text.1) (⊎_elim inl (λ called. inr (let h = called.2 in search rules)))
    (c.closures_fail.ensures c.args.searcher.now.settings _ _ _ _ step.2))) inr (c.slices_fail_for.ensures
    c.args.matcher c.args.searcher.now c.args.bytes.now _ _ _ sound c.in_err-search_slice.ensures.searched))
