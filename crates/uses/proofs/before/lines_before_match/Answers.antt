use Rattle.std.proofs.Common.{◌≡◌, ℕ, List, [], ◌∷◌, Some, ap, arith, inl, inr, map, refl, take, true, ◌∙◌}
use Rattle.std.proofs.lemmas.Result.{err_from_is_err_and}
use Rattle.std.specs.List.{slice_get}
use Rattle.grep_searcher.specs.MatchHandlers.{FirstReports, kept_line}
use Rattle.grep_searcher.specs.Plans.{Settings}
use Rattle.grep_searcher.specs.Searches.{searched_bytes}
use Rattle.uses.specs.LinesBefore.{lines_before}
use Rattle.uses.proofs.before.lines_before_match.Goals as goal

-- as many lines come before a line as its index
before-first : (settings : Settings) (bytes : List ℕ) (found : List ℕ) → settings.line_number ≡ true
    → lines_before (slice_get (map (kept_line settings bytes) (take 1 found)) 0) ≡ slice_get found 0
before-first settings bytes [] numbered = refl
before-first settings bytes (i ∷ found) numbered = rw numbered (ap (λ n. Some n) (omega arith))

pub returns-clause-before : goal.returns-clause-before
returns-clause-before g c = λ input all by numbered. let settings = c.args.searcher.now.settings in
    c.count_before.ensures ∙ ap lines_before (c.into_first.ensures ∙ ap (λ (first : FirstReports). slice_get first.kept 0)
    (c.into_handler.ensures ∙ c.runs_keep_first.ensures.lines settings (g.M.Matcher.facts c.args.matcher).meaning
    (searched_bytes settings input) by.by_line 1 _ _ (c.new-sink.ensures ∙ c.new.ensures)
    (c.known_readers_run.ensures c.args.matcher c.args.searcher.now c.args.reader.now input _ _ _ by.undetected all
    by.lawful c.in_ok-search_reader.ensures.searched))) ∙ before-first settings (searched_bytes settings input) _ numbered

pub returns-in_err-search_reader-clause-error : goal.returns-in_err-search_reader-clause-error
returns-in_err-search_reader-clause-error g c = λ sound.
    let error = err_from_is_err_and c.from_residual.result c.from_residual.ensures.1 in rw (error.1, error.2)
    (elim (c.readers_fail_for.ensures c.args.matcher c.args.searcher.now c.args.reader.now _ _ _ _ sound
    c.in_err-search_reader.ensures.searched) [ inl step ↦ inl step.2.1.0 | inr other ↦ inr other ])
