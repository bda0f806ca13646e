-- Worked examples of braces.
use Rattle.std.proofs.Common.{false, true, [], ◌∷◌, refl}
use Rattle.std.specs.Prelude.{codes}
use Rattle.linegrep_files.specs.Braces.{StandsFor, first_choice, next_choice, no_part, of_braces, of_byte}
use Rattle.linegrep_files.specs.Braces.{of_class, of_escape, of_part}

-- a part in braces may have braces: x{a,b{c,d}}
pub nested : StandsFor false (codes "x{a,b{c,d}}") (codes "xa" ∷ codes "xbc" ∷ codes "xbd" ∷ [])
nested = of_braces (of_part (codes "x") (no_part false) (of_byte 120 refl))
    (next_choice (first_choice (of_part (codes "a") (no_part true) (of_byte 97 refl)))
    (of_braces (of_part (codes "b") (no_part true) (of_byte 98 refl))
    (next_choice (first_choice (of_part (codes "c") (no_part true) (of_byte 99 refl)))
    (of_part (codes "d") (no_part true) (of_byte 100 refl)))))

-- an empty part, a comma outside of braces, and a brace that a backslash or brackets make a letter: a,{,\}}[}]
pub letters : StandsFor false (codes "a,{,\\}}[}]") (codes "a,[}]" ∷ codes "a,\\}[}]" ∷ [])
letters = of_part (codes "[}]")
    (of_braces (of_part (codes ",") (of_part (codes "a") (no_part false) (of_byte 97 refl)) (of_byte 44 refl))
    (next_choice (first_choice (no_part true)) (of_part (codes "\\}") (no_part true) (of_escape 125))))
    (of_class (codes "}") refl)
