-- The groups of a match, each by its start and its end if it takes part in the match.
use Rattle.std.specs.Prelude.{◌≡◌, ℕ, ◌≤◌, List, [], ◌∷◌, Option, Some, None, All, IfSome}

-- the first group is the match, and without a match there are none
abbrev pub IsOfMatch : List (Option (ℕ × ℕ)) → Option (ℕ × ℕ) → Type 0
IsOfMatch groups None = groups ≡ []
IsOfMatch [] (Some m) = ⊥
IsOfMatch (group ∷ groups) (Some m) = group ≡ Some m

-- each group lies in so many bytes
abbrev pub LieWithin : ℕ → List (Option (ℕ × ℕ)) → Type 0
LieWithin size groups = All (λ group. IfSome group (λ g. (g.0 ≤ g.1) × (g.1 ≤ size))) groups
