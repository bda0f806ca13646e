-- Digits that are put into a text at a position.
use Rattle.std.proofs.Common.{◌≡◌, ℕ, ◌+◌, ◌-◌, ◌/◌, ◌%◌, ◌^◌, ◌<◌, ◌≤◌, List, [], ◌∷◌, ◌++◌, drop, length, take}
use Rattle.std.proofs.Common.{arith, decimal, sym, ap, ◌∙◌, subst, append_assoc}
use Rattle.std.proofs.Math.Seq.{take-append-add}
use Rattle.std.proofs.lemmas.List.{drop-drop, length-take-le, take-append-le}
use borrow.Rule.Slice.PartMut.{put_mid, post_of}
use Rattle.itoa.proofs.Decimal.{pair, decimal_pair}

-- of those only some first bytes are kept
pub take-copied : (at count k : ℕ) (xs ys : List ℕ) → at ≤ length xs → count ≤ length ys
    → take (at + count) (put_mid at k xs ys) ≡ take at xs ++ take count ys
take-copied at count k xs ys within enough =
    subst (λ n. take (n + count) (take at xs ++ (ys ++ post_of at k xs)) ≡ take at xs ++ take count ys)
    (length-take-le at xs within)
    (take-append-add (take at xs) (ys ++ post_of at k xs) count
    ∙ ap (λ zs. take at xs ++ zs) (take-append-le count ys (post_of at k xs) enough))

-- what is the same from a position on is so from a later one on
pub same-later : (from later : ℕ) (xs ys : List ℕ) → from ≤ later → drop from xs ≡ drop from ys
    → drop later xs ≡ drop later ys
same-later from later xs ys passed same =
    let past : from + (later - from) ≡ later = omega arith in
    subst (λ n. drop n xs ≡ drop n ys) past
    (sym (drop-drop (later - from) from xs) ∙ (ap (drop (later - from)) same ∙ drop-drop (later - from) from ys))

-- a number's hundreds, the two digits after them and a mark
pub marked : (front : List ℕ) (n mark : ℕ) → 100 ≤ n → n < 2 ^ 64
    → (front ++ decimal (n / 100)) ++ (pair (n % 100) ++ mark ∷ []) ≡ front ++ (decimal n ++ mark ∷ [])
marked front n mark large fits =
    append_assoc front (decimal (n / 100)) (pair (n % 100) ++ mark ∷ [])
    ∙ ap (λ zs. front ++ zs) (sym (append_assoc (decimal (n / 100)) (pair (n % 100)) (mark ∷ []))
    ∙ ap (λ zs. zs ++ mark ∷ []) (sym (decimal_pair n large fits)))
