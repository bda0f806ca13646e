use Rattle.std.proofs.Common.{◌∙◌, ap, option_map, sym}
use Rattle.grep_regex.specs.Views.{regex_first, regex_meaning}
use Rattle.grep_regex.proofs.EngineLemmas.{starts, starts-nowhere}
use Rattle.grep_regex.proofs.TrustLemmas.{trusted-none, trusted-some, trusted-first}
use Rattle.grep_regex.proofs.finder.candidate_line.Goals as goal

pub returns-then-not-is_by_line-clause-trusted : goal.returns-then-not-is_by_line-clause-trusted
returns-then-not-is_by_line-clause-trusted g c =
    trusted-first (regex_meaning c.args.shortcut.now.regex.now) (λ _. Unit {0}) c.args.haystack.now

pub returns-in-Ok-None-clause-trusted : goal.returns-in-Ok-None-clause-trusted
returns-in-Ok-None-clause-trusted g c =
    let r = c.args.shortcut.now.regex.now in
    trusted-none r (λ _. Unit {0}) c.args.haystack.now
    (λ k. (c.type_inv.haystack k).fits) (c.is_by_line.ensures.local c.if-not-is_by_line.false)
    (c.is_by_line.ensures.strips c.if-not-is_by_line.false)
    (starts-nowhere (regex_first r c.args.haystack.now)
    (sym (ap (option_map (λ m. m.0)) c.in-Ok-None.field-0-is) ∙ c.in-Ok-None.ensures.value))

pub returns-in-Ok-Some-clause-trusted : goal.returns-in-Ok-Some-clause-trusted
returns-in-Ok-Some-clause-trusted g c =
    let r = c.args.shortcut.now.regex.now in
    let found = starts (regex_first r c.args.haystack.now) c.in-Ok-Some.start
    (sym (ap (option_map (λ m. m.0)) c.in-Ok-Some.field-0-is) ∙ c.in-Ok-Some.ensures.value) in
    trusted-some r (λ _. Unit {0}) c.args.haystack.now
    (λ k. (c.type_inv.haystack k).fits) (c.is_by_line.ensures.local c.if-not-is_by_line.false)
    (c.is_by_line.ensures.strips c.if-not-is_by_line.false)
    c.in-Ok-Some.start found.0 found.1
