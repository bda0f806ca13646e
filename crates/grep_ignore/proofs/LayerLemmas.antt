-- Layers that say nothing.
use Rattle.std.proofs.Common.{◌≡◌, ℕ, ◌+◌, ◌<◌, Bool, List, length, get_or, subst, sym, ap, arith, inl, inr, ◌∙◌}
use Rattle.std.proofs.lemmas.Bool.{cases_eq}
use Rattle.std.proofs.lemmas.List.{get_or_default}
use Rattle.std.specs.Prelude.{Option}
use Rattle.grep_ignore.specs.Layers.{AreSilent, Says}
use Rattle.grep_ignore.specs.declared.layers.Layer.{Layer}
use Rattle.grep_ignore.specs.declared.rules.Decision.TheVariants.{Unmatched}

-- one more says nothing
pub silent-more : (path : List ℕ) (is_folder : Bool) (start : ℕ) (repository : Option ℕ) (layers : List Layer)
    (at : ℕ) (here : Layer) → at < length layers → here ≡ get_or layers at here
    → AreSilent path is_folder start repository layers at
    → Says path is_folder start repository here Unmatched
    → AreSilent path is_folder start repository layers (at + 1)
silent-more path is_folder start repository layers at here below is silent says k layer less =
    elim (cases_eq k at) [
      | inl same ↦
          let found : here ≡ get_or layers k layer =
          is ∙ get_or_default layers at here layer below ∙ ap (λ n. get_or layers n layer) (sym same) in
          subst (λ l. Says path is_folder start repository l Unmatched) found says
      | inr other ↦ silent k layer (omega (arith, other))
    ]
