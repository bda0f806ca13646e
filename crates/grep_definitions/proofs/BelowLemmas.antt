-- Numbers below a bound that pass a test, bounds that may be missing, and lists joined over
-- numbers.
use Rattle.std.proofs.Common.{min, ◌≡◌, ◌⊎◌, ℕ, zero, suc, ◌+◌, ◌-◌, ◌<◌, ◌≤◌, Bool, true, false}
use Rattle.std.proofs.Common.{Option, Some, None, if◌then◌else◌, refl, sym, ◌∙◌, ap, arith, ⊎_elim}
use Rattle.std.proofs.Common.{append_assoc}
use Rattle.std.proofs.lemmas.Bool.{le-ltb, cases_lt, cases_Bool}
use Rattle.std.proofs.Math.Bool.{or-false, or-true}
use Rattle.std.specs.Prelude.{IfSome, List, [], ◌∷◌, ◌++◌, map}
use Rattle.std.proofs.lemmas.List.{append-nil, map-append}
use Rattle.grep_definitions.specs.Plans.{some_below, count_below, first_below, Settings, has_room}
use Rattle.grep_definitions.specs.Plans.{at_most, joined_from}
use Rattle.grep_definitions.proofs.BoolLemmas.{clash}

pub some_below-none : (p : ℕ → Bool) (n : ℕ) → ((j : ℕ) → j < n → p j ≡ false) → some_below p n
    ≡ false
some_below-none p zero none = refl
some_below-none p (suc n) none = rw (
  some_below-none p n (λ j below. none j (omega arith)),
  none n (omega arith),
) refl

pub some_below-some : (p : ℕ → Bool) (n j : ℕ) → j < n → p j ≡ true → some_below p n ≡ true
some_below-some p zero j below passes = absurd (omega arith)
some_below-some p (suc n) j below passes =
    ⊎_elim (λ less. rw (some_below-some p n j less passes) refl)
    (λ over. let same : n ≡ j = omega arith in rw (same, passes) (or-true (some_below p j)))
    (cases_lt j n)

pub some_below-false : (p : ℕ → Bool) (n j : ℕ) → some_below p n ≡ false → j < n → p j ≡ false
some_below-false p n j none below =
    ⊎_elim (λ yes. absurd (clash (some_below-some p n j below yes) none)) (λ no. no)
    (cases_Bool (p j))

pub first_below-here : (p : ℕ → Bool) (m q : ℕ) → q < m → p q ≡ true → some_below p q ≡ false
    → first_below p m ≡ Some q
first_below-here p zero q below passes none = absurd (omega arith)
first_below-here p (suc m) q below passes none = ⊎_elim
    (λ less. let some = some_below-some p m q less passes in rw
    (some, first_below-here p m q less passes none) refl)
    (λ over. let same : q ≡ m = omega arith in let silent : some_below p m
    ≡ false = ap (some_below p) (sym same)
    ∙ none in
    let here : p m ≡ true = ap p (sym same) ∙ passes in rw (silent, here, same) refl)
    (cases_lt q m)

pub first_below-of : (p : ℕ → Bool) (n q : ℕ) → first_below p n ≡ Some q → (q < n) × (p q ≡ true)
first_below-of p zero q is = cc
first_below-of p (suc n) q is = go (some_below p n) (p n) refl is
    (λ found. first_below-of p n q found)
  where
    go : (s h : Bool) → p n ≡ h → (if s then first_below p n else (if h then Some n else None))
        ≡ Some q → (first_below p n ≡ Some q → (q < n) × (p q ≡ true)) → (q < suc n) × (p q ≡ true)
    go true h is_h found before = let below = before found in (omega arith, below.1)
    go false true is_h found before = let same : n ≡ q = cc in (omega arith, ap p (sym same) ∙ is_h)
    go false false is_h found before = cc

pub first_below-more : (p : ℕ → Bool) (i n m : ℕ) → i ≤ n → first_below p i ≡ Some m
    → first_below p n ≡ Some m
first_below-more p i zero m le is = let same : i ≡ zero = omega arith in ap (first_below p)
    (sym same) ∙ is
first_below-more p i (suc n) m le is = ⊎_elim (λ less.
    let before = first_below-more p i n m (omega arith) is in
    let found = first_below-of p n m before in
    let some = some_below-some p n m found.0 found.1 in
    rw (some, before) refl)
    (λ over. let same : i ≡ suc n = omega arith in ap (first_below p) (sym same) ∙ is)
    (cases_lt i (suc n))

pub first_below-late : (p : ℕ → Bool) (i n m : ℕ) → some_below p i ≡ false → first_below p n
    ≡ Some m → i ≤ m
first_below-late p i n m none is = ⊎_elim (λ less. let found = first_below-of p n m is in absurd
    (clash found.1 (some_below-false p i m none less))) (λ over. over) (cases_lt m i)

pub count_below-le : (p : ℕ → Bool) (i q : ℕ) → i ≤ q → count_below p i ≤ count_below p q
count_below-le p i zero le = let same : i ≡ zero = omega arith in let e =
    ap (count_below p) same in omega arith
count_below-le p i (suc q) le = ⊎_elim
    (λ less. let before = count_below-le p i q (omega arith) in go (p q) before)
    (λ over. let same : i ≡ suc q = omega arith in let e = ap (count_below p) same in omega arith)
    (cases_lt i (suc q))
  where
    go : (h : Bool) → count_below p i ≤ count_below p q
        → count_below p i ≤ (if h then count_below p q + 1 else count_below p q)
    go true before = omega arith
    go false before = before

-- a limit that has no room has none for more lines, and none for as many as it has
pub room-le : (k : Settings) (n m : ℕ) → n ≤ m → has_room k n ≡ false → has_room k m ≡ false
room-le k n m le = grind arith

pub room-first : (k : Settings) (m : ℕ) → has_room k m ≡ true → has_room k 0 ≡ true
room-first k m room =
    ⊎_elim (λ yes. yes) (λ no. absurd (clash room (room-le k 0 m (omega arith) no)))
    (cases_Bool (has_room k 0))

pub room-none : (k : Settings) (n : ℕ) → k.max_matches ≡ Some n → has_room k n ≡ false
room-none k n is = rw is (le-ltb n n (omega arith))

pub at_most-over : (o : Option ℕ) (n : ℕ) → IfSome o (λ b. n < b) → at_most o n ≡ n
at_most-over None n above = refl
at_most-over (Some b) n above = omega arith

pub at_most-above : (o : Option ℕ) (i n : ℕ) → IfSome o (λ b. i < b) → i < n → i < at_most o n
at_most-above None i n above less = less
at_most-above (Some b) i n above less = omega arith

pub at_most-next : (o : Option ℕ) (i : ℕ) → IfSome o (λ b. i < b) → at_most o (i + 1) ≡ i + 1
at_most-next None i above = refl
at_most-next (Some b) i above = omega arith

pub at_most-some : (o : Option ℕ) (i n : ℕ) → o ≡ Some (suc i) → i < n → at_most o n ≡ i + 1
at_most-some None i n is less = cc
at_most-some (Some b) i n is less = let same : b ≡ suc i = cc in omega arith

-- what is joined up to a number, and from it on
pub joined_from-add : {X : Type 0} (f : ℕ → List X) (i n m : ℕ) → joined_from f i (n + m)
    ≡ joined_from f i n ++ joined_from f (i + n) m
joined_from-add f i zero m = rw (zero-add-is m, add-zero-is i) refl
  where
    zero-add-is : (m : ℕ) → zero + m ≡ m
    zero-add-is m = omega arith

    add-zero-is : (i : ℕ) → i + zero ≡ i
    add-zero-is i = omega arith
joined_from-add f i (suc n) m =
    let sum : suc n + m ≡ suc (n + m) = omega arith in
    let shift : (i + 1) + n ≡ i + suc n = omega arith in
    rw (sum) (ap (λ rest. f i ++ rest) (joined_from-add f (i + 1) n m)
    ∙ (rw shift (sym (append_assoc (f i) _ _))))

-- what is made of joined lists
pub map-joined : {X Y : Type 0} (g : X → Y) (f : ℕ → List X) (i n : ℕ)
    → map g (joined_from f i n) ≡ joined_from (λ j. map g (f j)) i n
map-joined g f i zero = refl
map-joined g f i (suc n) =
    map-append g (f i) (joined_from f (i + 1) n)
    ∙ ap (λ xs. map g (f i) ++ xs) (map-joined g f (i + 1) n)

-- one more of what is joined
pub joined_from-more : {X : Type 0} (f : ℕ → List X) (i n : ℕ) → joined_from f i (n + 1)
    ≡ joined_from f i n ++ f (i + n)
joined_from-more f i n = joined_from-add f i n 1 ∙ ap (λ xs. joined_from f i n ++ xs)
    (append-nil (f (i + n)))

-- an element, and then what is joined up to a number
module _ {X : Type 0} (first : X) (f : ℕ → List X) where
  abbrev pub headed : ℕ → List X
  headed i = first ∷ joined_from f 0 i

  pub headed-through : (v i : ℕ) → v ≤ i → headed i ≡ headed v ++ joined_from f v (i - v)
  headed-through v i low = ap (λ later. first ∷ later) split
    where
      split : joined_from f 0 i ≡ joined_from f 0 v ++ joined_from f v (i - v)
      split =
          let sum : i ≡ v + (i - v) = omega arith in
          let zero_v : 0 + v ≡ v = omega arith in
          ap (λ m. joined_from f 0 m) sum ∙ joined_from-add f 0 v (i - v)
          ∙ ap (λ m. joined_from f 0 v ++ joined_from f m (i - v)) zero_v

  pub headed-one : (v i : ℕ) → v ≡ i → headed (i + 1) ≡ headed v ++ f i
  headed-one v i same =
      let one : (i + 1) - i ≡ 1 = omega arith in
      headed-through i (i + 1) (omega arith) ∙ (ap (λ m. headed i ++ joined_from f i m) one
      ∙ (ap (λ xs. headed i ++ xs) (append-nil (f i)) ∙ ap (λ m. headed m ++ f i) (sym same)))

  pub headed-many : (v i : ℕ) → v ≤ i → headed (i + 1) ≡ headed v
      ++ (joined_from f v (i - v) ++ f i)
  headed-many v i low =
      let sum : (i + 1) - v ≡ (i - v) + 1 = omega arith in
      let last : v + (i - v) ≡ i = omega arith in
      headed-through v (i + 1) (omega arith) ∙ ap (λ xs. headed v ++ xs)
      (ap (λ m. joined_from f v m) sum
      ∙ (joined_from-more f v (i - v) ∙ ap (λ m. joined_from f v (i - v) ++ f m) last))

-- joined lists are equal if their parts are
pub joined_from-equal : {X : Type 0} (f h : ℕ → List X) (i n : ℕ)
    → ((j : ℕ) → i ≤ j → j < i + n → f j ≡ h j) → joined_from f i n ≡ joined_from h i n
joined_from-equal f h i zero same = refl
joined_from-equal f h i (suc n) same = rw (
  same i (omega arith) (omega arith),
  joined_from-equal f h (i + 1) n (λ j low high. same j (omega arith) (omega arith)),
) refl

pub joined_from-none : {X : Type 0} (f : ℕ → List X) (i n : ℕ)
    → ((j : ℕ) → i ≤ j → j < i + n → f j ≡ []) → joined_from f i n ≡ []
joined_from-none f i zero none = refl
joined_from-none f i (suc n) none = rw (
  none i (omega arith) (omega arith),
  joined_from-none f (i + 1) n (λ j low high. none j (omega arith) (omega arith)),
) refl

-- if some number passes, there is one
pub some_below-find : (p : ℕ → Bool) (n : ℕ) → some_below p n ≡ true → (j : ℕ) × (j < n)
    × (p j ≡ true)
some_below-find p zero is = cc
some_below-find p (suc n) is = go (p n) refl (λ h. some_below-find p n h)
  where
    go : (b : Bool) → p n ≡ b → (some_below p n ≡ true → (j : ℕ) × (j < n) × (p j ≡ true)) → (j : ℕ)
        × (j < suc n) × (p j ≡ true)
    go true here later = (n, omega arith, here)
    go false here later =
        let found = later (sym (or-false (some_below p n)) ∙ rw here at is) in
        (found.0, omega arith, found.2)

-- if no number passes, there is no first
pub first_below-nowhere : (p : ℕ → Bool) (n : ℕ) → some_below p n ≡ false → first_below p n ≡ None
first_below-nowhere p zero none = refl
first_below-nowhere p (suc n) none = grind (arith, first_below-nowhere p n)

-- and if there is no first, none passes
pub first_below-none : (p : ℕ → Bool) (n : ℕ) → first_below p n ≡ None → some_below p n ≡ false
first_below-none p zero none = refl
first_below-none p (suc n) none = grind (arith, clash, first_below-none p n)

-- no number before the first that passes does
pub first_below-before : (p : ℕ → Bool) (n q j : ℕ) → first_below p n ≡ Some q → j < q → p j ≡ false
first_below-before p n q j is less = ⊎_elim (λ here. absurd (go (first_below p q) refl here))
    (λ none. none) (cases_Bool (p j))
  where
    go : (found : Option ℕ) → first_below p q ≡ found → p j ≡ true → ⊥
    go None none here = clash here (some_below-false p q j (first_below-none p q none) less)
    go (Some x) some here =
        let below = (first_below-of p n q is).0 in
        let twice : Some x ≡ Some q = sym (first_below-more p q n x (omega arith) some) ∙ is in
        let same : x ≡ q = cc in
        let before = (first_below-of p q x some).0 in
        absurd (omega arith)

-- no more numbers pass than there are in a range that all of them are in
pub count_below-within : (p : ℕ → Bool) (low size n : ℕ) → ((i : ℕ) → i < n → p i ≡ true → (low ≤ i)
    × (i < low + size)) → count_below p n ≤ min n (low + size) - low
count_below-within p low size zero inside = omega arith
count_below-within p low size (suc n) inside =
    go (p n) refl (count_below-within p low size n (λ i less. inside i (omega arith)))
  where
    go : (b : Bool) → p n ≡ b → count_below p n ≤ min n (low + size) - low
        → (if b then count_below p n + 1 else count_below p n) ≤ min (suc n) (low + size) - low
    go true is before = let here = inside n (omega arith) is in omega arith
    go false is before = omega arith

-- if none of the first numbers passes, none of them counts
pub count_below-none : (p : ℕ → Bool) (n : ℕ) → ((j : ℕ) → p j ≡ false) → count_below p n ≡ 0
count_below-none p zero none = refl
count_below-none p (suc n) none = rw (none n) (count_below-none p n none)

-- if no two numbers pass, at most one of them counts
pub count_below-once : (p : ℕ → Bool) (n : ℕ) → ((i j : ℕ) → i < j → p i ≡ true → p j ≡ true → ⊥)
    → count_below p n ≤ 1
count_below-once p zero one = omega arith
count_below-once p (suc n) one = go (p n) refl (count_below-once p n one)
  where
    none : (m : ℕ) → m ≤ n → p n ≡ true → count_below p m ≡ 0
    none zero low here = refl
    none (suc m) low here = ⊎_elim (λ yes. absurd (one m n (omega arith) yes here))
        (λ no. rw no (none m (omega arith) here)) (cases_Bool (p m))

    go : (b : Bool) → p n ≡ b → count_below p n ≤ 1
        → (if b then count_below p n + 1 else count_below p n) ≤ 1
    go true here before = omega (arith, none n (omega arith) here)
    go false here before = before

-- if each number that passes also passes one of two tests, no more pass than pass the two
pub count_below-either : (p q r : ℕ → Bool) (n : ℕ)
    → ((i : ℕ) → r i ≡ true → (p i ≡ true) ⊎ (q i ≡ true))
    → count_below r n ≤ count_below p n + count_below q n
count_below-either p q r zero either = omega arith
count_below-either p q r (suc n) either = grind (arith, count_below-either p q r n either)
