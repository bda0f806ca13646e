-- Numbers and texts.
use Rattle.std.specs.Prelude.{ℕ, List, map, String}
use Rattle.std.specs.Global.{Global}
use Rattle.std.specs.String.{string_bytes}

-- the numbers, and the bytes of the texts
abbrev pub texts_of : List (ℕ × String Global) → List (ℕ × List ℕ)
texts_of lines = map (λ line. (line.0, string_bytes line.1)) lines
