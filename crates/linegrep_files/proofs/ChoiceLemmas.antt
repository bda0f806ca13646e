-- Why something isn't visited that no glob is about.
use Rattle.std.proofs.Common.{◌≡◌, ℕ, Bool, List, [], ◌∷◌, subst, ◌∙◌, ap, arith}
use Rattle.std.specs.Prelude.{Err, IfOk, None, Ok, Option, Result}
use Rattle.grep_ignore.specs.Layers.{IsDecider, of_none}
use Rattle.grep_ignore.specs.declared.layers.Layer.{Layer}
use Rattle.linegrep_files.specs.Choices.{IsReason, IsUnmatchedReason, is_shown, of_unmatched}
use Rattle.linegrep_files.specs.Globs.{IsGlobChoice}
use Rattle.linegrep_files.specs.declared.choices.Choices.{Choices}
use Rattle.linegrep_files.specs.declared.globs.Choice.TheVariants.{Unmatched}
use Rattle.linegrep_files.specs.declared.notes.Reason.{Reason}

pub unmatched-reason : {E : Type 0} (choices : Choices) (path name bytes : List ℕ) (is_folder shown : Bool)
    (result : Result (Option Reason) E) → IsGlobChoice choices.globs path is_folder Unmatched → bytes ≡ name
    → shown ≡ is_shown choices bytes → IfOk result (IsUnmatchedReason choices bytes is_folder shown)
    → IfOk result (IsReason choices path name is_folder)
unmatched-reason choices path name bytes is_folder shown (Ok reason) glob same is others = of_unmatched reason glob
    (subst (λ n. IsUnmatchedReason choices n is_folder (is_shown choices name) reason) same
    (subst (λ s. IsUnmatchedReason choices bytes is_folder s reason) (is ∙ ap (is_shown choices) same) others))
unmatched-reason choices path name bytes is_folder shown (Err e) glob same is others = tt

-- where there are no rules none decides
pub none-decides : (path : List ℕ) (is_folder : Bool) (start : ℕ) (repository : Option ℕ) (layers : List Layer)
    → layers ≡ [] → IsDecider path is_folder start repository layers None
none-decides path is_folder start repository [] is = of_none (λ k layer less. absurd (omega (arith, less)))
none-decides path is_folder start repository (layer ∷ layers) is = absurd (cc)
