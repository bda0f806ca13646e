-- Bytes as the pieces that they are the texts of.
use Rattle.std.specs.Prelude.{◌≡◌, ◌⊎◌, ℕ, Bool, true, false, List, []}
use Rattle.std.specs.Prelude.{◌∷◌, ◌++◌, not, ◌&&◌, ◌||◌, replicate, length, nat_le}
use Rattle.std.specs.List.{list_all}
use Rattle.grep_ignore.specs.Classes.{is_empty}
use Rattle.grep_ignore.specs.Globs.{is_special}
use Rattle.grep_ignore.specs.declared.wildcards.Piece.{Piece}
use Rattle.grep_ignore.specs.declared.wildcards.Piece.TheVariants.{One}

-- the set of a byte
abbrev pub byte_set : ℕ → List Bool
byte_set byte = replicate byte false ++ true ∷ []

-- a piece for each byte
abbrev pub byte_pieces : List ℕ → List Piece
byte_pieces [] = []
byte_pieces (byte ∷ rest) = One (byte_set byte) ∷ byte_pieces rest

-- each byte is meant as itself
abbrev pub are_plain : List ℕ → Bool
are_plain text = list_all (λ byte. not (is_special byte)) text

-- nothing is left, or no more than so many bytes that are meant as themselves
abbrev pub is_tail : ℕ → List ℕ → Bool
is_tail longest text = is_empty text || (nat_le (length text) longest && are_plain text)

-- some first bytes of a glob, each of which is meant as itself, or none
abbrev pub IsHead : Bool → List ℕ → List ℕ → Type 0
IsHead ignores_case glob head = ((rest : List ℕ) × (glob ≡ head ++ rest))
    × ((head ≡ []) ⊎ ((ignores_case ≡ false) × (are_plain head ≡ true)))
