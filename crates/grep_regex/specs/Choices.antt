-- Sequences of sets of bytes as contracts see them.
use Rattle.std.specs.Global.{Global}
use Rattle.std.specs.Prelude.{Bool, List, map, Vec}
use Rattle.grep_matcher.specs.declared.byte_set.ByteSet.{ByteSet}

-- the sets of each
abbrev pub items_of : List (Vec ByteSet Global) → List (List (List Bool))
items_of choices = map (λ sets. sets.items) choices
