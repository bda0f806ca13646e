-- Rows of the table of options.
use Rattle.std.proofs.Common.{◌≡◌, ℕ, ◌+◌, Bool, List, [], ◌∷◌, Some, cond, map, refl, ap, sym, ◌∙◌}
use Rattle.std.specs.Prelude.{position, ◌||◌}
use Rattle.std.specs.List.{list_any, position_from}
use Rattle.std.proofs.lemmas.Iterator.Adapters.{position_from-zero}

position_from-map : {A B : Type 0} (p : B → Bool) (f : A → B) (n : ℕ) (xs : List A)
    → position_from p n (map f xs) ≡ position_from (λ x. p (f x)) n xs
position_from-map p f n [] = refl
position_from-map p f n (x ∷ xs) = ap (λ r. cond (p (f x)) (Some n) r) (position_from-map p f (n + 1) xs)

-- the first element of a mapped list that passes a test
pub position-map : {A B : Type 0} (p : B → Bool) (f : A → B) (xs : List A)
    → position p (map f xs) ≡ position (λ x. p (f x)) xs
position-map p f xs = position_from-zero p (map f xs)
    ∙ (position_from-map p f 0 xs ∙ sym (position_from-zero (λ x. p (f x)) xs))

-- a test of some element of a mapped list
pub list_any-map : {A B : Type 0} (p : B → Bool) (f : A → B) (xs : List A)
    → list_any p (map f xs) ≡ list_any (λ x. p (f x)) xs
list_any-map p f [] = refl
list_any-map p f (x ∷ xs) = ap (λ r. p (f x) || r) (list_any-map p f xs)
