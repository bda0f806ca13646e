-- Which pieces the text of a glob stands for.
use Rattle.std.specs.Prelude.{◌≡◌, ℕ, Bool, true, false, ◌⊎◌, ◌&&◌, ◌||◌, ◌==◌}
use Rattle.std.specs.Prelude.{nat_lt, List, [], ◌∷◌, ◌++◌, replicate}
use Rattle.grep_ignore.specs.Classes.{IsSet, IsClass, IsUnclosed, begins_with, is_empty}
use Rattle.grep_ignore.specs.Classes.{is_either, is_name_byte}
use Rattle.grep_ignore.specs.declared.glob.GlobError.{GlobError}
use Rattle.grep_ignore.specs.declared.glob.GlobError.TheVariants.{Malformed, OutOfMemory}
use Rattle.grep_ignore.specs.declared.wildcards.Piece.{Piece}
use Rattle.grep_ignore.specs.declared.wildcards.Piece.TheVariants.{One, Many, Folders}

-- a byte that isn't meant as itself: a star, a question mark, an opening bracket or a backslash
abbrev pub is_special : ℕ → Bool
is_special byte = (byte == 42) || (byte == 63) || (byte == 91) || (byte == 92)

-- a glob begins with a byte that is meant as itself, and goes on with a rest
abbrev pub IsPlain : ℕ → List ℕ → List ℕ → Type 0
IsPlain byte glob rest =
    ((is_special byte ≡ false) × (glob ≡ byte ∷ rest)) ⊎ (glob ≡ 92 ∷ byte ∷ rest)

-- a glob begins with one star and some more, all that there are, and goes on with a rest
abbrev pub HasStars : ℕ → List ℕ → List ℕ → Type 0
HasStars more glob rest =
    (glob ≡ 42 ∷ (replicate more 42 ++ rest)) × (begins_with 42 rest ≡ false)

-- stars are a whole name: at least two, where a name begins, and then its end
abbrev pub is_name : Bool → ℕ → List ℕ → Bool
is_name begins more rest = begins && nat_lt 0 more && (is_empty rest || begins_with 47 rest)

-- A glob begins with the text of a piece, and goes on with a rest. `begins` says whether a name
-- begins where the glob does, and `next` whether one begins where the rest does: after a slash.
-- Stars that are a whole name stand for any folders, or at the end for everything; others, and a
-- question mark, stand for bytes of a name.
abbrev pub IsPieceText : Bool → Bool → List ℕ → Piece → Bool → List ℕ → Type 0
IsPieceText ignores_case begins glob (One set) next rest =
    ((glob ≡ 63 ∷ rest) × (next ≡ false) × IsSet set is_name_byte)
    ⊎ ((byte : ℕ) × IsPlain byte glob rest × (next ≡ (byte == 47))
    × IsSet set (is_either ignores_case (λ b. b == byte)))
    ⊎ ((class : List ℕ) × (glob ≡ 91 ∷ class) × (next ≡ false)
    × IsClass ignores_case set class rest)
IsPieceText ignores_case begins glob (Many set) next rest =
    (more : ℕ) × HasStars more glob rest × (next ≡ false)
    × (((is_name begins more rest ≡ false) × IsSet set is_name_byte)
    ⊎ ((is_name begins more rest ≡ true) × (rest ≡ []) × IsSet set (λ byte. nat_lt byte 256)))
IsPieceText ignores_case begins glob Folders next rest =
    (more : ℕ) × HasStars more glob (47 ∷ rest) × (next ≡ true)
    × (is_name begins more (47 ∷ rest) ≡ true)

-- a glob is the texts of some pieces, one after another, and a rest
abbrev pub ArePieceTexts : Bool → Bool → List ℕ → List Piece → Bool → List ℕ → Type 0
ArePieceTexts ignores_case begins glob [] next rest = (next ≡ begins) × (rest ≡ glob)
ArePieceTexts ignores_case begins glob (piece ∷ later) next rest =
    (middle : Bool) × (mid : List ℕ) × IsPieceText ignores_case begins glob piece middle mid
    × ArePieceTexts ignores_case middle mid later next rest

-- a glob is the texts of some pieces
abbrev pub IsGlob : Bool → List ℕ → List Piece → Type 0
IsGlob ignores_case glob pieces =
    (next : Bool) × ArePieceTexts ignores_case true glob pieces next []

-- no piece can be read: a backslash is at the end, or a class isn't closed
abbrev pub IsFault : List ℕ → Type 0
IsFault glob = (glob ≡ 92 ∷ []) ⊎ ((class : List ℕ) × (glob ≡ 91 ∷ class) × IsUnclosed class)

-- after some pieces no other can be read
abbrev pub IsMalformed : Bool → List ℕ → Type 0
IsMalformed ignores_case glob = (pieces : List Piece) × (next : Bool) × (rest : List ℕ)
    × ArePieceTexts ignores_case true glob pieces next rest × IsFault rest

-- a fact about the text, if an error is that it isn't well formed
abbrev pub OnMalformed : GlobError → Type 0 → Type 0
OnMalformed (Malformed cause) P = P
OnMalformed OutOfMemory P = Unit {0}
