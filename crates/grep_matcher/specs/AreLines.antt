-- What makes a list the lines of some bytes.
use Rattle.std.specs.Prelude.{◌≡◌, ◌≢◌, ℕ, ◌+◌, ◌-◌, ◌<◌, List, [], ◌∷◌, length, slice_index, All}
use Rattle.std.specs.List.{concat}

-- t occurs nowhere but at the end of the piece
abbrev pub IsUnbroken : ℕ → List ℕ → Type 0
IsUnbroken t piece = (k : ℕ) → k + 1 < length piece → slice_index piece k ≢ t

-- each piece but the last ends with t
abbrev pub AreEnded : ℕ → List (List ℕ) → Type 0
AreEnded t [] = Unit {0}
AreEnded t (last ∷ []) = Unit {0}
AreEnded t (piece ∷ next ∷ later) = (slice_index piece (length piece - 1) ≡ t)
    × AreEnded t (next ∷ later)

-- exactly one list has these four properties
pub record AreLines (t : ℕ) (bytes : List ℕ) (pieces : List (List ℕ)) : Type 0 where
  pub joined : concat pieces ≡ bytes
  pub filled : All (λ piece. 0 < length piece) pieces
  pub unbroken : All (IsUnbroken t) pieces
  pub ended : AreEnded t pieces
