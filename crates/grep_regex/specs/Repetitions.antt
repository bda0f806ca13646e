-- Repetitions of a tree.
use Rattle.std.specs.Prelude.{◌≡◌, ℕ, Bool, Box, Option, Some}
use Rattle.std.specs.declared.alloc.Global.{Global}
use Rattle.regex_hir.specs.declared.hir.Hir.{Hir}
use Rattle.regex_hir.specs.declared.hir.Hir.TheVariants.{Repetition}

-- if it is a repetition, it isn't one of nothing, `a{0}`
abbrev pub Repeats : Hir → Type 0
Repeats hir = (least : ℕ) (most : Option ℕ) (greedy : Bool) (sub : Box Hir Global) →
    hir ≡ Repetition least most greedy sub → least ≡ 0 → most ≡ Some 0 → ⊥
