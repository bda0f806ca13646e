-- What is equal in a vector of 64 bytes, counted lane by lane.
use Rattle.std.proofs.Common.{zero, suc, take, drop, ◌≡◌, ◌≤◌, ◌+◌, ◌^◌, ◌-◌, ◌/◌, ◌*◌, shr-shr, ℕ}
use Rattle.std.proofs.Common.{Bool, true, false, eqb, length, count_by, List, [], ◌∷◌, map, refl}
use Rattle.std.proofs.Common.{sym, ◌∙◌, ap, subst, arith, w8}
use Rattle.std.specs.Prelude.{replicate}
use Rattle.std.proofs.Math.Nat.{zero-div}
use Rattle.std.proofs.lemmas.List.Recursion.{is_count_by}
use Rattle.std.proofs.lemmas.Simd.{Each1-zip2, Each2-of, sum-zip2, tops_compared, zip2_splat}
use lib.Lanes.{Each1, Each2, mask_l, sel_l, sum_l, top, zip2}
use mathlib.Core.Bool.{cond}
use mir.Val.{Fits, bits, hbits}

-- one for each byte that passes
abbrev pub ones : (ℕ → Bool) → List ℕ → List ℕ
ones p xs = map (λ x. cond (p x) 1 0) xs

selected : (p : ℕ → Bool) (xs : List ℕ) → sel_l (map p xs) (replicate (length xs) 1)
    (replicate (length xs) 0) ≡ ones p xs
selected p [] = refl
selected p (x ∷ xs) = ap (λ ys. cond (p x) 1 0 ∷ ys) (selected p xs)

-- they come to the count
pub sum-ones : (p : ℕ → Bool) (xs : List ℕ) → sum_l (ones p xs) ≡ count_by p xs
sum-ones p xs = is_count_by (λ ys. sum_l (ones p ys)) p refl (λ x ys. one (p x) (sum_l (ones p ys)))
    xs
  where
    one : (b : Bool) (n : ℕ) → cond b 1 0 + n ≡ cond b (1 + n) n
    one true n = refl
    one false n = omega arith

-- the count is that of a front and that of the rest
pub count-split : (p : ℕ → Bool) (n : ℕ) (xs : List ℕ) → count_by p xs ≡ count_by p (take n xs)
    + count_by p (drop n xs)
count-split p n xs = omega (
  arith,
  sum-ones p xs,
  sum-ones p (take n xs),
  sum-ones p (drop n xs),
  split n xs,
)
  where
    split : (n : ℕ) (xs : List ℕ) → sum_l (ones p xs) ≡ sum_l (ones p (take n xs))
        + sum_l (ones p (drop n xs))
    split zero xs = omega arith
    split (suc n) [] = refl
    split (suc n) (x ∷ xs) = omega (arith, split n xs)

few-ones : (p : ℕ → Bool) (xs : List ℕ) → Each1 (λ n. n ≤ 1) (ones p xs)
few-ones p [] = tt
few-ones p (x ∷ xs) = (go (p x), few-ones p xs)
  where
    go : (b : Bool) → cond b 1 0 ≤ 1
    go true = omega arith
    go false = omega arith

length-ones : (p : ℕ → Bool) (xs : List ℕ) → length (ones p xs) ≡ length xs
length-ones p [] = refl
length-ones p (x ∷ xs) = omega (arith, length-ones p xs)

-- a comparison with a byte selects them
pub equal-ones : (xs : List ℕ) (t : ℕ) → length xs ≡ 64
    → sel_l (map (top (hbits w8)) (zip2 (λ a b. cond (eqb a b) (2 ^ bits w8 - 1) 0) xs
    (replicate 64 t))) (replicate 64 1) (replicate 64 0) ≡ ones (λ x. eqb x t) xs
equal-ones xs t long =
    ap (λ ms. sel_l ms (replicate 64 1) (replicate 64 0))
    (tops_compared w8 eqb xs (replicate 64 t) ∙ zip2_splat eqb xs 64 t long)
    ∙ subst (λ n. sel_l (map (λ x. eqb x t) xs) (replicate n 1) (replicate n 0)
    ≡ ones (λ x. eqb x t) xs) long (selected (λ x. eqb x t) xs)

module _ (lanes xs : List ℕ) (p : ℕ → Bool) where
  -- no lane overflows
  pub ones-fit : Each1 (λ n. n ≤ 254) lanes → Each2 (λ a b. Fits w8 (a + b)) lanes (ones p xs)
  ones-fit room = Each2-of (λ n. n ≤ 254) (λ n. n ≤ 1) (λ a b. Fits w8 (a + b))
      (λ a b low one. record { fits = omega (arith, one) }) lanes (ones p xs) room (few-ones p xs)

  pub sum-added : length lanes ≡ length xs → sum_l (zip2 (λ a b. a + b) lanes (ones p xs))
      ≡ sum_l lanes + count_by p xs
  sum-added same = sum-zip2 lanes (ones p xs) (same ∙ sym (length-ones p xs))
      ∙ ap (λ n. sum_l lanes + n) (sum-ones p xs)

  pub few-added : (most : ℕ) → Each1 (λ n. n ≤ most) lanes
      → Each1 (λ n. n ≤ most + 1) (zip2 (λ a b. a + b) lanes (ones p xs))
  few-added most few = Each1-zip2 (λ a b. a + b) (λ n. n ≤ most + 1) lanes (ones p xs)
      (Each2-of (λ n. n ≤ most) (λ n. n ≤ 1) (λ a b. a + b ≤ most + 1)
      (λ a b low one. omega (arith, one)) lanes (ones p xs) few (few-ones p xs))

-- a mask without its first bits
pub mask-shifted : (p : ℕ → Bool) (n : ℕ) (xs : List ℕ) → mask_l (map p xs) / 2 ^ n
    ≡ mask_l (map p (drop n xs))
mask-shifted p zero xs = omega arith
mask-shifted p (suc n) [] = zero-div (2 ^ suc n)
mask-shifted p (suc n) (x ∷ xs) =
    let sum : suc n ≡ 1 + n = omega arith in
    ap (λ k. mask_l (map p (x ∷ xs)) / 2 ^ k) sum ∙ (sym (shr-shr (mask_l (map p (x ∷ xs))) 1 n)
    ∙ (ap (λ m. m / 2 ^ n) (half (p x) (mask_l (map p xs))) ∙ mask-shifted p n xs))
  where
    half : (b : Bool) (m : ℕ) → (cond b 1 0 + 2 * m) / 2 ^ 1 ≡ m
    half true m = omega arith
    half false m = omega arith
