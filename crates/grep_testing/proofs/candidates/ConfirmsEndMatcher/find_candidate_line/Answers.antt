use Rattle.std.proofs.Common.{inl, inr, refl, sym, ap, ◌∙◌, None, Some}
use Rattle.std.specs.Option.{option_copied}
use Rattle.grep_matcher.specs.declared.line_terminator.LineTerminator.TheVariants.{Byte}
use Rattle.grep_testing.specs.Matchers.{naming}
use Rattle.grep_testing.proofs.EndLemmas.{unheld-end}
use Rattle.grep_testing.proofs.candidates.ConfirmsEndMatcher.find_candidate_line.Goals as goal

-- src/candidates.rt:65:5
pub returns-in-Some-eq10-clause-trusted : goal.returns-in-Some-eq10-clause-trusted
returns-in-Some-eq10-clause-trusted c terminator lawful (inl declared) =
    let last = sym c.last.ensures.value ∙ (ap option_copied c.in-Some-eq10.is ∙ ap Some c.in-Some-eq10.field-0-test) in (
      λ i below ends. refl,
      λ i below holds confirmed. absurd
          (unheld-end 10 terminator declared (naming (Byte 10) (λ x. None)) c.args.haystack.now
          last i holds),
    )
returns-in-Some-eq10-clause-trusted c terminator lawful (inr excluded) = (
  λ i below ends. refl,
  λ i below holds confirmed. excluded,
)
