-- Runs of bytes, as they are written one after another. Of a run all bytes are colored, or none is.
use Rattle.std.specs.Prelude.{ℕ, Bool, List, [], ◌∷◌, ◌++◌}
use Rattle.grep_printer.specs.ColoredTexts.{switch_text}

-- the text of a run. If it has bytes, what comes between them and the byte before is written first
abbrev pub run_text : List ℕ → List ℕ → Bool → Bool → List ℕ → List ℕ
run_text color back before is_colored [] = []
run_text color back before is_colored (byte ∷ later) =
    switch_text color back before is_colored ++ byte ∷ later

-- whether the last byte is colored after a run
abbrev pub after_run : Bool → Bool → List ℕ → Bool
after_run before is_colored [] = before
after_run before is_colored (byte ∷ later) = is_colored
