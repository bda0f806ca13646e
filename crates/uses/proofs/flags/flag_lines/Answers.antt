use Rattle.std.proofs.Common.{rules, arith, refl, inl, inr, ⊎_elim}
use Rattle.std.proofs.lemmas.Result.{err_from_is_err_and}
use Rattle.grep_searcher.specs.Plans.{search_plan}
use Rattle.grep_searcher.specs.Searches.{searched_bytes}
use Rattle.grep_searcher.specs.SearchLaws.{is_match, is_report}
use Rattle.uses.specs.LineFlags.{flag_of}
use Rattle.uses.proofs.flags.flag_lines.Goals as goal

pub returns-clause-flags : goal.returns-clause-flags
returns-clause-flags g c = λ by passes unlimited. let settings = c.args.searcher.now.settings in
    let meaning = (g.M.Matcher.facts c.args.matcher).meaning in let bytes = searched_bytes settings c.args.bytes.now in
    let kept = c.calls_are_passed.ensures.appended flag_of (λ f. f.0.ghost_name) (λ f. f.0.now.items)
    (λ old passed b new h. search rules) _ _ _ _ (c.searches_run.ensures c.args.matcher c.args.searcher.now
    c.args.bytes.now _ _ by.undetected by.lawful c.in_ok-search_slice.ensures.searched) in
    let flags = c.parts_are_items.ensures is_report is_match (λ _ _. refl) (search_plan settings meaning bytes) in
    let hits = c.lines_are_passed.ensures.hits settings meaning bytes by.by_line passes unlimited in
    grind (arith, kept, c.new-flags.ensures.items, flags, hits)

pub returns-in_err-search_slice-clause-error : goal.returns-in_err-search_slice-clause-error
returns-in_err-search_slice-clause-error g c = λ sound.
    let error = err_from_is_err_and c.from_residual.result c.from_residual.ensures.1 in
    let failed = c.calls_are_passed.ensures.failed c.args.searcher.now.settings in let why = c.slices_fail_for.ensures c.args.matcher
    c.args.searcher.now c.args.bytes.now _ _ _ sound c.in_err-search_slice.ensures.searched in
    rw error.1 (_, error.2, ⊎_elim (λ step. inl (let h = (failed _ _ _ _ step.2).2 in search rules)) inr why)
