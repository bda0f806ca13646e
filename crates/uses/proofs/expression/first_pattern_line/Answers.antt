use Rattle.std.proofs.Common.{◌≡◌, None, ◌∙◌, ap, inr, subst, sym}
use Rattle.std.proofs.lemmas.Result.{IfErr-weaker}
use Rattle.grep_regex.specs.Views.{regex_meaning}
use Rattle.grep_searcher.specs.Plans.{refusal_of}
use Rattle.uses.specs.PlainSettings.{held_to}
use Rattle.uses.proofs.expression.first_pattern_line.Goals as goal

pub returns-clause-error : goal.returns-clause-error
returns-clause-error g c = λ allowed.
    let means = ap regex_meaning c.in_ok-matcher.ensures ∙ c.in_ok-regex.ensures.meaning in
    let free = subst (λ meaning. refusal_of (held_to c.args.limit) meaning ≡ None) (sym means) allowed in
    IfErr-weaker _ _ _ (λ e failed. inr failed) (rw means at
    (c.first_line_that_matches.ensures.failure (record { lawful = λ _. tt; allowed = free })))
