-- What the wildcards of a glob match.
use Rattle.std.specs.Prelude.{◌≡◌, ℕ, List, [], ◌∷◌, ◌++◌, IsTrue, ◌⊎◌}
use Rattle.std.specs.List.{All}
use Rattle.grep_matcher.specs.ByteSets.{holds}
use Rattle.grep_ignore.specs.Endings.{HasStart}
use Rattle.grep_ignore.specs.declared.wildcards.Piece.{Piece}
use Rattle.grep_ignore.specs.declared.wildcards.Piece.TheVariants.{One, Many, Folders}

-- a part of a path is what a piece stands for: one byte of its set, any number of them, or nothing
-- or bytes that end in a slash
abbrev pub Fits : Piece → List ℕ → Type 0
Fits (One set) part = (byte : ℕ) × (part ≡ byte ∷ []) × IsTrue (holds set byte)
Fits (Many set) part = All (λ byte. IsTrue (holds set byte)) part
Fits Folders part = (part ≡ []) ⊎ ((front : List ℕ) × (part ≡ front ++ 47 ∷ []))

-- a path is one part after another of what pieces stand for
abbrev pub Matches : List Piece → List ℕ → Type 0
Matches [] path = path ≡ []
Matches (piece ∷ later) path = (part : List ℕ) × (rest : List ℕ)
    × (path ≡ part ++ rest) × Fits piece part × Matches later rest

-- in any path that pieces match a name begins with a text
abbrev pub AreStarted : List Piece → List ℕ → Type 0
AreStarted pieces start = (path : List ℕ) → Matches pieces path → HasStart path start
