-- Slices of a list of bytes.
use Rattle.std.proofs.Common.{◌≡◌, ℕ, ◌+◌, ◌-◌, ◌<◌, ◌≤◌, List, [], ◌++◌, length, take, drop}
use Rattle.std.proofs.Common.{slice_index, refl, sym, ap, ◌∙◌, arith}
use Rattle.std.proofs.lemmas.List.{drop-take, drop-drop, take-append-le, take-take, length-take-le}
use Rattle.std.proofs.lemmas.List.{length-drop, get_or-take, get_or-drop}
use Rattle.std.proofs.Math.Seq.{take-add}
use Rattle.std.proofs.lemmas.Slice.{between_is}
use Rattle.std.specs.Prelude.{slice_range}
use lib.Seq.{paste}

-- the length of a slice_range
pub length-slice : (bytes : List ℕ) (start end : ℕ) → end ≤ length bytes
    → length (slice_range bytes start end) ≡ end - start
length-slice bytes start end within = grind (arith, length-drop, length-take-le)

-- a slice_range from a position to itself
pub slice-none : (bytes : List ℕ) (start : ℕ) → slice_range bytes start start ≡ []
slice-none bytes start = let none : start - start ≡ 0 = omega arith in rw none refl

-- a slice_range that starts n positions later
pub drop-slice : (bytes : List ℕ) (start end n : ℕ) → n ≤ end - start
    → drop n (slice_range bytes start end) ≡ slice_range bytes (start + n) end
drop-slice bytes start end n fits =
    let sum : end - start ≡ n + (end - (start + n)) = omega arith in
    ap (λ k. drop n (take k (drop start bytes))) sum ∙ drop-take n (end - (start + n))
    (drop start bytes) ∙ ap (take (end - (start + n))) (drop-drop n start bytes)

-- two slices, one after the other, are one
pub slice-join : (bytes : List ℕ) (a b c : ℕ) → a ≤ b → b ≤ c → slice_range bytes a b
    ++ slice_range bytes b c ≡ slice_range bytes a c
slice-join bytes a b c first second =
    let sum : c - a ≡ (b - a) + (c - b) = omega arith in
    let at : a + (b - a) ≡ b = omega arith in
    sym (ap (λ k. take k (drop a bytes)) sum ∙ take-add (b - a) (c - b) (drop a bytes)
    ∙ ap (λ l. take (b - a) (drop a bytes) ++ take (c - b) l) (drop-drop (b - a) a bytes
    ∙ ap (λ k. drop k bytes) at))

-- a slice_range that was moved to the front
pub slice-moved : (bytes : List ℕ) (start end : ℕ) → start ≤ end → end ≤ length bytes
    → slice_range (paste bytes 0 (drop start bytes) (end - start)) 0 (end - start)
    ≡ slice_range bytes start end
slice-moved bytes start end order within = grind (arith, length-slice, take-append-le, take-take)

-- a slice_range of a front that stayed
pub slice-kept : (old new : List ℕ) (a b e : ℕ) → take e new ≡ take e old → b ≤ e
    → slice_range new a b ≡ slice_range old a b
slice-kept old new a b e same below =
    let front : take b new ≡ take b old = sym (take-take b e new below) ∙ ap (take b) same
    ∙ take-take b e old below in
    between_is new a b ∙ ap (drop a) front ∙ sym (between_is old a b)

-- a slice_range that grew by n bytes after that front
pub slice-grown : (old new : List ℕ) (a e n : ℕ) → take e new ≡ take e old → a ≤ e
    → slice_range new a (e + n) ≡ slice_range old a e ++ take n (drop e new)
slice-grown old new a e n same below =
    let top : e ≤ e + n = omega arith in
    let left : (e + n) - e ≡ n = omega arith in
    sym (slice-join new a e (e + n) below top) ∙ ap (λ l. l ++ slice_range new e (e + n))
    (slice-kept old new a e e same (omega arith))
    ∙ ap (λ k. slice_range old a e ++ take k (drop e new)) left

-- a byte of a slice_range
pub slice_index-slice : (bytes : List ℕ) (start end k : ℕ) → k < end - start
    → slice_index (slice_range bytes start end) k ≡ slice_index bytes (start + k)
slice_index-slice bytes start end k within = get_or-take (end - start) (drop start bytes) k 0 within
    ∙ get_or-drop start bytes k 0
