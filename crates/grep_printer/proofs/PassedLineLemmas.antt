-- How many lines end before a position of some bytes.
use Rattle.std.proofs.Common.{◌≡◌, ℕ, ◌+◌, ◌-◌, ◌≤◌, List, arith, ap, sym, ◌∙◌, take, drop}
use Rattle.std.proofs.lemmas.List.{drop-take, take-take}
use Rattle.std.proofs.lemmas.List.Sums.{sum_by-take-drop}
use Rattle.std.specs.Prelude.{◌==◌, cond, count_by, slice_range}
use Rattle.grep_lines.specs.Blocks.{lines_before}

-- the lines before a position, and those between it and a later one
pub lines-passed : (t : ℕ) (bytes : List ℕ) (from to : ℕ) → from ≤ to
    → lines_before t bytes from + count_by (λ b. b == t) (slice_range bytes from to) ≡ lines_before t bytes to
lines-passed t bytes from to less =
    let sum : from + (to - from) ≡ to = omega (arith, less) in
    let count : List ℕ → ℕ = λ xs. count_by (λ b. b == t) xs in
    let first = ap count (take-take from to bytes less) in
    let later = ap count (ap (λ n. drop from (take n bytes)) (sym sum) ∙ drop-take from (to - from) bytes) in
    omega (arith, first, later, sum_by-take-drop (λ b. cond (b == t) 1 0) (take to bytes) from)
