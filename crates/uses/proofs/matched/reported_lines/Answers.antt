use Rattle.std.proofs.Common.{◌≡◌, true, ◌∙◌, inl, inr}
use Rattle.std.proofs.lemmas.List.Elements.{All-map}
use Rattle.std.proofs.lemmas.Result.{err_from_is_err_and}
use Rattle.std.specs.Prelude.{is_some}
use Rattle.grep_searcher.specs.Plans.{reported_bytes}
use Rattle.grep_searcher.specs.Searches.{searched_bytes}
use Rattle.uses.specs.MatchedLines.{first_in_line}
use Rattle.uses.proofs.matched.reported_lines.Goals as goal

pub returns-clause-lines : goal.returns-clause-lines
returns-clause-lines g c = c.into_lines.ensures ∙ c.into_handler.ensures ∙ c.runs_keep_bytes.ensures
    c.args.searcher.now.settings _ _ _ (rw (c.new-sink.ensures ∙ c.new.ensures) at (c.searches_run.ensures
    c.args.matcher c.args.searcher.now c.args.bytes.now _ _ c.requires.by_line.undetected c.requires.by_line.lawful
    c.in_ok-search_slice.ensures.searched))

pub returns-clause-matching : goal.returns-clause-matching
returns-clause-matching g c = let settings = c.args.searcher.now.settings in
    let meaning = (g.M.Matcher.facts c.args.matcher.now).meaning in rw (returns-clause-lines g c)
    (All-map (λ line. is_some (first_in_line settings.line_terminator meaning line) ≡ true) reported_bytes _
    (c.matched_lines_hit.ensures.matching settings meaning (searched_bytes settings c.args.bytes.now)
    c.requires.by_line.by_line c.requires.plain))

pub returns-in_err-search_slice-clause-error : goal.returns-in_err-search_slice-clause-error
returns-in_err-search_slice-clause-error g c = λ sound.
    let error = err_from_is_err_and c.from_residual.result c.from_residual.ensures.1 in
    rw (error.1, error.2)
    (elim (c.slices_fail_for.ensures c.args.matcher c.args.searcher.now c.args.bytes.now _ _ _ sound
    c.in_err-search_slice.ensures.searched) [ inl step ↦ inl step.2.1.0 | inr other ↦ inr other ])
