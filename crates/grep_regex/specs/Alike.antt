-- Lists of patterns that match alike.
use Rattle.std.specs.Prelude.{List, [], ◌∷◌}
use Rattle.regex_hir.specs.Re.{Re}
use Rattle.regex_syntax.specs.Captures.{SameCaptures}

-- the patterns match alike, one by one
abbrev pub AreAlike : List Re → List Re → Type 0
AreAlike [] [] = Unit {0}
AreAlike [] (b ∷ bs) = ⊥
AreAlike (a ∷ these) [] = ⊥
AreAlike (a ∷ these) (b ∷ bs) = SameCaptures a b × AreAlike these bs
