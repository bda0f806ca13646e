-- Where two lists of lines first differ.
use Rattle.std.specs.Prelude.{◌≡◌, ◌≢◌, ℕ, List, take, slice_get, Option, None, Some}

-- nowhere, or at the first index at which one has another line than the other, or none
abbrev pub IsFirstDifference : List (List ℕ) → List (List ℕ) → Option ℕ → Type 0
IsFirstDifference left right None = left ≡ right
IsFirstDifference left right (Some i) =
    (take i left ≡ take i right) × (slice_get left i ≢ slice_get right i)
