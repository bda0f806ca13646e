-- Operands as texts.
use Rattle.std.specs.Prelude.{ℕ, if◌then◌else◌, List, map}
use Rattle.std.specs.Borrow.{Bor}
use Rattle.std.specs.Str.{is_utf8}
use Rattle.linegrep_files.specs.Words.{escaped}

-- the text of an operand: its own bytes if they are UTF-8, or else the word that stands for them
abbrev pub operand_text : List ℕ → List ℕ
operand_text operand = if is_utf8 operand then operand else escaped operand

abbrev pub operand_texts : List (Bor (List ℕ)) → List (List ℕ)
operand_texts operands = map (λ operand. operand_text operand.now) operands
