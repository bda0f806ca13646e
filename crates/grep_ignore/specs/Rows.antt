-- Tests of what pieces match, from the last piece on, and rows of their answers. No public contract
-- cites this file.
use Rattle.std.specs.Prelude.{◌≡◌, ℕ, ◌+◌, ◌≤◌, Bool, true, false, ◌&&◌, ◌||◌, ◌==◌, List, [], ◌∷◌}
use Rattle.std.specs.Prelude.{length, drop, slice_index_or}
use Rattle.grep_matcher.specs.ByteSets.{holds}
use Rattle.grep_ignore.specs.declared.wildcards.Piece.{Piece}
use Rattle.grep_ignore.specs.declared.wildcards.Piece.TheVariants.{One, Many, Folders}

-- nothing is left
abbrev pub at_end : List ℕ → Bool
at_end [] = true
at_end (byte ∷ rest) = false

-- a byte of a set, and then what a test passes
abbrev pub one_step : (List ℕ → Bool) → List Bool → List ℕ → Bool
one_step f set [] = false
one_step f set (byte ∷ rest) = holds set byte && f rest

-- any number of bytes of a set, and then what a test passes
abbrev pub many_step : (List ℕ → Bool) → List Bool → List ℕ → Bool
many_step f set [] = f []
many_step f set (byte ∷ rest) = f (byte ∷ rest) || (holds set byte && many_step f set rest)

-- bytes that end in a slash, and then what a test passes
abbrev pub slash_step : (List ℕ → Bool) → List ℕ → Bool
slash_step f [] = false
slash_step f (byte ∷ rest) = slash_step f rest || ((byte == 47) && f rest)

-- what a piece matches, and then what a test passes
abbrev pub step : Piece → (List ℕ → Bool) → List ℕ → Bool
step (One set) f path = one_step f set path
step (Many set) f path = many_step f set path
step Folders f path = f path || slash_step f path

-- what pieces match
abbrev pub decides : List Piece → List ℕ → Bool
decides [] path = at_end path
decides (piece ∷ later) path = step piece (decides later) path

-- a row has for each position of a path, and for its end, what a test says of the bytes
-- from there on
abbrev pub IsRow : (List ℕ → Bool) → List ℕ → List Bool → Type 0
IsRow f path row = (length row ≡ length path + 1)
    × ((k : ℕ) → k ≤ length path → slice_index_or row k false ≡ f (drop k path))

-- the row of no pieces
abbrev pub IsFirstRow : List ℕ → List Bool → Type 0
IsFirstRow path row = IsRow at_end path row
