-- Decisions of rules on the way to a path.
use Rattle.std.proofs.Common.{◌≡◌, ℕ, ◌+◌, ◌<◌, true, List, [], ◌∷◌, ◌++◌, length, get_or, take, drop}
use Rattle.std.proofs.Common.{refl, sym, ap, ◌∙◌, subst, arith, inl, inr}
use Rattle.std.proofs.lemmas.Bool.{cases_eq}
use Rattle.std.proofs.lemmas.List.{drop_more, take-append-drop}
use Rattle.grep_ignore.specs.Decisions.{IsDecided}
use Rattle.grep_ignore.specs.declared.rules.Decision.TheVariants.{Ignored}
use Rattle.grep_ignore.specs.declared.rules.Rule.{Rule}

-- a path is what is before a byte, the byte, and what is after it
pub around : (path : List ℕ) (at : ℕ) → at < length path → get_or path at 0 ≡ 47
    → path ≡ take at path ++ 47 ∷ drop (at + 1) path
around path at below is = sym (take-append-drop at path)
    ∙ ap (λ l. take at path ++ l) (drop_more path at 0 below ∙ ap (λ b. b ∷ drop (at + 1) path) is)

-- a folder whose path ends at a position, and what is at it
ends-at : (path folder rest : List ℕ) (at : ℕ) → path ≡ folder ++ 47 ∷ rest → length folder ≡ at
    → (get_or path at 0 ≡ 47) × (take at path ≡ folder)
ends-at path folder rest at is ends = rw (is, ← ends) (get-there folder rest, take-there folder rest)
  where
    get-there : (f r : List ℕ) → get_or (f ++ 47 ∷ r) (length f) 0 ≡ 47
    get-there [] r = refl
    get-there (b ∷ f) r = get-there f r

    take-there : (f r : List ℕ) → take (length f) (f ++ 47 ∷ r) ≡ f
    take-there [] r = refl
    take-there (b ∷ f) r = ap (λ l. b ∷ l) (take-there f r)

-- no folder on the way up to a position is left out, nor the one that ends there
pub none-further : (rules : List Rule) (path : List ℕ) (at : ℕ)
    → ((folder rest : List ℕ) → path ≡ folder ++ 47 ∷ rest → length folder < at
    → IsDecided rules folder true Ignored → ⊥)
    → ((get_or path at 0 ≡ 47) × IsDecided rules (take at path) true Ignored → ⊥)
    → (folder rest : List ℕ) → path ≡ folder ++ 47 ∷ rest → length folder < at + 1
    → IsDecided rules folder true Ignored → ⊥
none-further rules path at none apart folder rest is below decided = elim (cases_eq (length folder) at) [
  | inl here ↦
      let there : (get_or path at 0 ≡ 47) × (take at path ≡ folder) = ends-at path folder rest at is here in
      apart (there.0, subst (λ f. IsDecided rules f true Ignored) (sym there.1) decided)
  | inr other ↦ none folder rest is (omega (arith, other)) decided
]
