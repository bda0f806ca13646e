use Rattle.std.proofs.Common.{refl, arith, inr}
use Rattle.std.proofs.lemmas.Result.{err_from_is_err_and}
use Rattle.grep_searcher.specs.Searches.{searched_bytes}
use Rattle.grep_searcher.specs.Literals.{literal_meaning}
use Rattle.uses.specs.AcrossSettings.{across_lines}
use Rattle.uses.proofs.blocks.count_blocks.Goals as goal

pub returns-clause-count : goal.returns-clause-count
returns-clause-count c =
    let counted = c.runs_count_matches.ensures.all across_lines (literal_meaning c.in_ok-matcher.matcher)
    (searched_bytes across_lines c.args.bytes.now) _ _ c.new-blocks.ensures (c.searches_run.ensures
    c.in_ok-matcher.matcher _ c.args.bytes.now _ _ refl (λ _. tt)
    (rw c.in_ok-searcher.ensures.settings at c.in_ok-search_slice.ensures.searched)) in
    grind (arith, counted, c.count.ensures, c.in_ok-matcher.ensures)

pub returns-in_err-search_slice-clause-error : goal.returns-in_err-search_slice-clause-error
returns-in_err-search_slice-clause-error c = let residual = c.from_residual-in_err-search_slice in
    let error = err_from_is_err_and residual.result residual.ensures.1 in rw (error.1, error.2) (inr
    (rw (c.in_ok-searcher.ensures.settings, c.in_ok-matcher.ensures) at (c.in_err-search_slice.ensures.succeeds
    (λ _ _ _ _ _ _ h. h.1) (λ _ _ h. h) (λ _. tt) (rw c.in_ok-searcher.ensures.settings refl))))
