-- Why the parts of a report aren't found, as the errors of a search.
use Rattle.std.proofs.Common.{ℕ, List, Option, inl, inr}
use Rattle.std.proofs.lemmas.Result.{MatchResult-weaker}
use Rattle.std.specs.Prelude.{IfErr, Result, ◌⊎◌}
use Rattle.grep_replace.specs.PartsErrors.{IsPartsError}
use Rattle.grep_replace.specs.declared.parts.PartsError.{PartsError}
use Rattle.grep_replace.specs.declared.parts.PartsError.TheVariants.{Matcher, Memory}
use Rattle.grep_searcher.specs.SearchErrors.{IsOutOfMemory}
use Rattle.grep_printer.specs.PartErrors.{EachErrorIs, IsMatcherError}

module _ {F : Type 0} (output : F → Option (List ℕ)) (fails : List ℕ → F → Type 0) (bytes : List ℕ) where
  -- the error of a search is one of being out of memory, or the matcher's
  each-error : (error : PartsError F) → IsPartsError fails bytes error
      → EachErrorIs output (λ e. IsOutOfMemory e ⊎ IsMatcherError output fails bytes e) error
  each-error Memory may e memory = inl memory
  each-error (Matcher error) may e message = inr (error, may, message)

  pub part-error : {X : Type 0} (result : Result X (PartsError F)) → IfErr result (IsPartsError fails bytes)
      → IfErr result (EachErrorIs output (λ e. IsOutOfMemory e ⊎ IsMatcherError output fails bytes e))
  part-error result may = MatchResult-weaker result may (λ _ _. tt) each-error
