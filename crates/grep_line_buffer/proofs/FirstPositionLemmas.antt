-- The position of the first element that passes a test.
use Rattle.std.proofs.Common.{◌≡◌, ℕ, suc, Bool, true, false, List, ◌∷◌, length, None, Some}
use Rattle.std.proofs.Common.{refl, arith}
use Rattle.std.specs.Prelude.{nat_lt}
use Rattle.std.specs.List.{position, position_or_len}
use Rattle.std.proofs.lemmas.Bool.{lt-ltb}
use Rattle.std.proofs.lemmas.Option.{cond_some}

module _ {X : Type 0} (p : X → Bool) where
  pub position-is : (xs : List X) (n : ℕ) → position p xs ≡ Some n → position_or_len p xs ≡ n
  position-is xs n is =
      (cond_some (nat_lt (position_or_len p xs) (length xs)) (position_or_len p xs) n is).1

  -- with an element before that doesn't pass
  pub position-later : (x : X) (xs : List X) (n : ℕ) → p x ≡ false → position p xs ≡ Some n
      → position p (x ∷ xs) ≡ Some (suc n)
  position-later x xs n first is = grind arith

  pub position-never : (x : X) (xs : List X) → p x ≡ false → position p xs ≡ None
      → position p (x ∷ xs) ≡ None
  position-never x xs first is = grind arith

  pub position-first : (x : X) (xs : List X) → p x ≡ true → position p (x ∷ xs) ≡ Some 0
  position-first x xs first = rw first (rw (lt-ltb 0 (suc (length xs)) (omega arith)) refl)
