-- Where the first element of a list is that passes a test, in parts of the list and in lists that
-- are joined, and bytes in which one is replaced.
use Rattle.std.proofs.Common.{◌≡◌, ℕ, ◌<◌, ◌≤◌, Bool, false, List, [], ◌∷◌, length, take, None}
use Rattle.std.proofs.Common.{Some, refl, sym, ap, ◌∙◌, arith, ⊎_elim, length-take}
use Rattle.std.proofs.lemmas.Bool.{cases_lt, le-ltb, lt-ltb}
use Rattle.std.proofs.lemmas.List.{get_or-take}
use Rattle.std.proofs.lemmas.List.Quantifiers.{position-Some}
use Rattle.std.proofs.lemmas.List.Sums.{fails_before_first, position_or_len_is}
use Rattle.std.proofs.lemmas.Option.{none-some}
use Rattle.std.specs.List.{All, position, position_or_len}

module _ {X : Type 0} (p : X → Bool) where
  -- in terms of `position_or_len`
  pub position-below : (xs : List X) → position_or_len p xs < length xs → position p xs
      ≡ Some (position_or_len p xs)
  position-below xs some = rw (lt-ltb (position_or_len p xs) (length xs) some) refl

  pub position-past : (xs : List X) → length xs ≤ position_or_len p xs → position p xs ≡ None
  position-past xs none = rw (le-ltb (position_or_len p xs) (length xs) none) refl

  -- no element passes: both directions
  pub position-none : (xs : List X) → All (λ x. p x ≡ false) xs → position p xs ≡ None
  position-none [] all = refl
  position-none (x ∷ xs) all =
      let past = position_or_len_is p (x ∷ xs) (length (x ∷ xs)) x (omega arith)
      (λ k below. all k x below) (λ less. absurd (omega arith)) in
      position-past (x ∷ xs) (omega arith)

  pub none-passes : (xs : List X) → position p xs ≡ None → All (λ x. p x ≡ false) xs
  none-passes xs none k d below = ⊎_elim
      (λ some. absurd (none-some (position_or_len p xs) (sym none ∙ position-below xs some)))
      (λ past. fails_before_first p xs k d (omega arith))
      (cases_lt (position_or_len p xs) (length xs))

  pub position-take-before : (n : ℕ) (xs : List X) (i : ℕ) → position p xs ≡ Some i → n ≤ i
      → position p (take n xs) ≡ None
  position-take-before n xs i is low =
      position-none (take n xs) (λ k d below.
      let short : k < n = omega (arith, length-take n xs) in
      ap p (get_or-take n xs k d short) ∙ (position-Some p xs i d is).2 k (omega arith))
