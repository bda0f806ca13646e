-- Texts that are kept one after another.
use Rattle.std.specs.Prelude.{ℕ, List, [], ◌∷◌, take, drop}

-- the texts with these lengths that the bytes begin with
abbrev pub texts_of : List ℕ → List ℕ → List (List ℕ)
texts_of bytes [] = []
texts_of bytes (n ∷ lens) = take n bytes ∷ texts_of (drop n bytes) lens
