-- The bytes of a scalar value, written one by one.
use Rattle.std.proofs.Common.{◌≡◌, ℕ, ◌+◌, ◌/◌, ◌%◌, ◌<◌, ◌≤◌, List, [], ◌∷◌, ◌++◌, length, take}
use Rattle.std.proofs.Common.{set, refl, ap, ◌∙◌, arith, append_assoc, length-set}
use Rattle.std.proofs.lemmas.List.{take_more_set}
use Rattle.std.proofs.lemmas.Bool.Decides.{nat_tests}
use lib.Utf8.{encode}

pub encode-one : (c : ℕ) → c < 128 → encode c ≡ c ∷ []
unfolding encode
encode-one c low = grind (arith, nat_tests)

pub encode-two : (c : ℕ) → 128 ≤ c → c < 2048 → encode c ≡ (192 + c / 64) ∷ (128 + c % 64) ∷ []
unfolding encode
encode-two c low high = grind (arith, nat_tests)

pub encode-three : (c : ℕ) → 2048 ≤ c → c < 65536 → encode c ≡ (224 + c / 4096)
    ∷ (128 + c / 64 % 64) ∷ (128 + c % 64) ∷ []
unfolding encode
encode-three c low high = grind (arith, nat_tests)

pub encode-four : (c : ℕ) → 65536 ≤ c → encode c ≡ (240 + c / 262144) ∷ (128 + c / 4096 % 64)
    ∷ (128 + c / 64 % 64) ∷ (128 + c % 64) ∷ []
unfolding encode
encode-four c low = grind (arith, nat_tests)

-- one element more after a front
pub take-set_next : {X : Type 0} (xs : List X) (i j : ℕ) (y : X) (front : List X) → j ≡ i + 1 → i
    < length xs → take i xs ≡ front → take j (set xs i y) ≡ front ++ y ∷ []
take-set_next xs i j y front is within same = ap (λ k. take k (set xs i y)) is
    ∙ take_more_set xs i y within ∙ ap (λ l. l ++ y ∷ []) same

-- two, three and four elements, written one after the other
pub put-two : (xs : List ℕ) (i x y : ℕ) → i + 2 ≤ length xs
    → take (i + 2) (set (set xs i x) (i + 1) y) ≡ take i xs ++ (x ∷ y ∷ [])
put-two xs i x y room =
    let len : length (set xs i x) ≡ length xs = length-set xs i x in
    let one = take-set_next xs i (i + 1) x (take i xs) refl (omega arith) refl in
    take-set_next (set xs i x) (i + 1) (i + 2) y _ (omega arith) (omega arith) one
    ∙ append_assoc (take i xs) (x ∷ []) (y ∷ [])

pub put-three : (xs : List ℕ) (i x y z : ℕ) → i + 3 ≤ length xs
    → take (i + 3) (set (set (set xs i x) (i + 1) y) (i + 2) z) ≡ take i xs ++ (x ∷ y ∷ z ∷ [])
put-three xs i x y z room =
    let len : length (set (set xs i x) (i + 1) y) ≡ length xs = length-set (set xs i x) (i + 1) y
    ∙ length-set xs i x in
    let two = put-two xs i x y (omega arith) in
    take-set_next (set (set xs i x) (i + 1) y) (i + 2) (i + 3) z _ (omega arith) (omega arith) two
    ∙ append_assoc (take i xs) (x ∷ y ∷ []) (z ∷ [])

pub put-four : (xs : List ℕ) (i x y z w : ℕ) → i + 4 ≤ length xs
    → take (i + 4) (set (set (set (set xs i x) (i + 1) y) (i + 2) z) (i + 3) w) ≡ take i xs
    ++ (x ∷ y ∷ z ∷ w ∷ [])
put-four xs i x y z w room =
    let len : length (set (set (set xs i x) (i + 1) y) (i + 2) z) ≡ length xs =
    length-set (set (set xs i x) (i + 1) y) (i + 2) z ∙ length-set (set xs i x) (i + 1) y
    ∙ length-set xs i x in
    let three = put-three xs i x y z (omega arith) in
    take-set_next (set (set (set xs i x) (i + 1) y) (i + 2) z) (i + 3) (i + 4) w _ (omega arith)
    (omega arith) three ∙ append_assoc (take i xs) (x ∷ y ∷ z ∷ []) (w ∷ [])
