-- A run that has searched one input: its findings are those of that search, by any content that the
-- input may have.
use Rattle.std.proofs.Common.{◌≡◌, ℕ, false, List, [], ◌∷◌, ◌++◌, Option}
use Rattle.std.proofs.Common.{ap, refl, subst}
use Rattle.std.proofs.lemmas.List.{same_from_push}
use Rattle.std.specs.Prelude.{◌||◌}
use Rattle.grep_printer.specs.Formats.{is_text}
use Rattle.grep_searcher.specs.Meanings.{MatcherFacts}
use Rattle.grep_searcher.specs.Plans.{Settings}
use Rattle.linegrep_cli.specs.SearchTexts.{AreTextsFor, Findings, Input, IsTextFor}
use Rattle.linegrep_cli.specs.SearchTexts.{next_input, no_findings, no_input}
use Rattle.linegrep_cli.specs.declared.printers.Printer.{Printer}

module _ {M E : Type 0} (facts : M → MatcherFacts E) (first_at : M → List ℕ → ℕ → Option (ℕ × ℕ))
    (groups_at : M → List ℕ → ℕ → List (Option (ℕ × ℕ))) (settings : Settings) (matcher : M)
    (printer : Printer M) where
  -- the findings of one search
  pub record IsOneText (one : Input) (findings : Findings) : Type 0 where
    pub next : Findings
    pub of : IsTextFor facts first_at groups_at settings matcher printer false one next
    pub text_is : findings.text ≡ next.text
    pub found_is : findings.found ≡ next.found

  nothing-found : {inputs : List Input} {findings : Findings}
      → AreTextsFor facts first_at groups_at settings matcher printer inputs findings
      → inputs ≡ [] → findings ≡ no_findings
  nothing-found no_input none = refl
  nothing-found (next_input {inputs} {before} input next are of) none =
      absurd (push-some inputs input none)
    where
      push-some : (xs : List Input) (x : Input) → xs ++ x ∷ [] ≡ [] → ⊥
      push-some [] x is = cc
      push-some (y ∷ ys) x is = cc

  pub one-text : {inputs : List Input} {findings : Findings} (one : Input)
      → AreTextsFor facts first_at groups_at settings matcher printer inputs findings
      → inputs ≡ one ∷ [] → IsOneText one findings
  one-text one no_input is = absurd cc
  one-text one (next_input {inputs} {before} input next are of) is =
      let parts = same_from_push inputs [] input one is in
      let none = nothing-found are parts.0 in
      record {
        next = next;
        of = subst (λ i. IsTextFor facts first_at groups_at settings matcher printer false i next)
            parts.1
            (subst (λ (b : Findings). IsTextFor facts first_at groups_at settings matcher printer
            (is_text b.text) input next) none of);
        text_is = ap (λ (b : Findings). b.text ++ next.text) none;
        found_is = ap (λ (b : Findings). b.found || next.found) none;
      }
