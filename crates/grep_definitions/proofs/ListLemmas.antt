-- Lists that are filtered by a test, or joined over numbers.
use Rattle.std.proofs.Common.{◌≡◌, ℕ, zero, suc, ◌+◌, ◌<◌, ◌≤◌, Bool, true, false, List, [], ◌∷◌}
use Rattle.std.proofs.Common.{refl, ap, arith}
use Rattle.std.proofs.lemmas.List.Elements.{All-nil, All-head, All-tail, All-append}
use Rattle.std.specs.Prelude.{All, filter}
use Rattle.grep_definitions.specs.Plans.{joined_from}

-- if all elements pass, a filter keeps them, and if none does, it keeps none
pub filter-all : {X : Type 0} (p : X → Bool) (xs : List X) → All (λ x. p x ≡ true) xs → filter p xs
    ≡ xs
filter-all p [] all = refl
filter-all p (x ∷ xs) all =
    let here = All-head (λ y. p y ≡ true) x xs all in
    rw here (ap (λ ys. x ∷ ys) (filter-all p xs (All-tail (λ y. p y ≡ true) x xs all)))

pub filter-none : {X : Type 0} (p : X → Bool) (xs : List X) → All (λ x. p x ≡ false) xs
    → filter p xs ≡ []
filter-none p [] none = refl
filter-none p (x ∷ xs) none =
    let here = All-head (λ y. p y ≡ false) x xs none in
    rw here (filter-none p xs (All-tail (λ y. p y ≡ false) x xs none))

-- what holds of all that f gives for each number holds of them joined
pub All-joined_from : {X : Type 0} (P : X → Type 0) (f : ℕ → List X) (i n : ℕ)
    → ((j : ℕ) → i ≤ j → j < i + n → All P (f j)) → All P (joined_from f i n)
All-joined_from P f i zero each = All-nil P
All-joined_from P f i (suc n) each =
    All-append P (f i) (joined_from f (i + 1) n) (each i (omega arith) (omega arith))
    (All-joined_from P f (i + 1) n (λ j low high. each j (omega arith) (omega arith)))
