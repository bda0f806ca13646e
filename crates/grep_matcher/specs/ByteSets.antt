-- Sets of bytes as contracts see them: for each number below 256, whether it is in the set.
use Rattle.std.specs.Prelude.{ℕ, Bool, false, List, slice_index_or}

-- whether a number is in the set
abbrev pub holds : List Bool → ℕ → Bool
holds set byte = slice_index_or set byte false
