use Rattle.std.proofs.Common.{◌≡◌, map, take, ap, arith, inl, inr, ◌∙◌}
use Rattle.std.proofs.lemmas.Grind.{common_steps}
use Rattle.std.proofs.lemmas.Result.{err_from_is_err_and}
use Rattle.grep_searcher.specs.MatchHandlers.{bytes_of_each}
use Rattle.uses.specs.MatchedLines.{first_in_line}
use Rattle.uses.proofs.matched.first_in_each.Goals as goal

pub first_match-requires : goal.first_match-requires
first_match-requires g c = let items = c.deref-line-items.ensures.value in
    let hit = c.in_ok-lines.ensures.matching c.loop-line.line-index c.line-item.result.items in
    rw (c.line_terminator-terminator.ensures, c.deref.ensures.value)
    (grind (arith, common_steps, hit, c.loop-line-test.true, c.line-item.is, items))

pub returns-clause-firsts : goal.returns-clause-firsts
returns-clause-firsts g c = let ends = c.args.searcher.now.settings.line_terminator in
    let first = first_in_line ends (g.M.Matcher.facts c.args.matcher.now).meaning in
    let whole : take c.loop-line.line-index c.deref-line-items.result.now ≡ c.in_ok-lines.lines.items =
    grind (arith, common_steps, c.deref-line-items.ensures.value, c.loop-line-test.false) in
    c.loop-line.invariant ∙ rw c.line_terminator-terminator.ensures (ap (λ vectors. map first (bytes_of_each vectors))
    whole ∙ ap (map first) c.in_ok-lines.ensures.lines)

pub returns-in_err-lines-clause-error : goal.returns-in_err-lines-clause-error
returns-in_err-lines-clause-error g c = λ sound.
    let error = err_from_is_err_and c.from_residual.result c.from_residual.ensures.1 in
    rw (error.1, error.2) (c.in_err-lines.ensures.error sound)

pub returns-in_err-first_match-clause-error : goal.returns-in_err-first_match-clause-error
returns-in_err-first_match-clause-error g c = λ sound. let residual = c.from_residual-in_err-first_match in
    let error = err_from_is_err_and residual.result residual.ensures.1 in
    rw (error.1, error.2) (inr (inl c.in_err-first_match.ensures.failure))
