-- The successive matches: how many there are, in which order, and which are left after some of
-- them.
use Rattle.std.proofs.Common.{◌≡◌, ℕ, zero, suc, ◌+◌, ◌-◌, ◌<◌, ◌≤◌, true, false, List, []}
use Rattle.std.proofs.Common.{◌∷◌, ◌++◌, length, take, drop, refl, ap, ◌∙◌, arith}
use Rattle.std.proofs.Common.{Option, Some, None, length-drop}
use Rattle.std.proofs.Math.Seq.{take-nil}
use Rattle.std.proofs.lemmas.List.Elements.{All-nil, All-cons, All-take}
use Rattle.std.proofs.lemmas.Bool.{lt-ltb, le-ltb, leb-true, ltb-true, cases_lt}
use Rattle.std.proofs.lemmas.Bool.{and_parts}
use Rattle.std.specs.Prelude.{IfSome, All}
use Rattle.std.specs.Option.{option_map}
use Rattle.grep_matcher.specs.Meanings.{Meaning}
use Rattle.grep_matcher.specs.FindResults.{IsWithin}
use Rattle.grep_definitions.specs.Plans.{position_after, position_past, if_within, match_from}
use Rattle.grep_definitions.specs.Plans.{matches_from, matches_up_to, is_below}
use Rattle.grep_definitions.specs.SuccessiveMatches.{matches_left}
use Rattle.grep_definitions.proofs.BoolLemmas.{clash}

-- after a match that doesn't end before it starts, the next is looked for at a later position
pub position_after-later : (p : ℕ) (m : ℕ × ℕ) → p ≤ m.0 → m.0 ≤ m.1 → p < position_after m
position_after-later p m low order = grind arith

-- and not before its start
pub position_after-start : (m : ℕ × ℕ) → m.0 ≤ m.1 → m.0 ≤ position_after m
position_after-start m order = let after = position_after-later m.0 m (omega arith) order in omega
    arith

-- the last of some matches decides
pub position_past-last : (p : ℕ) (found : List (ℕ × ℕ)) (m : ℕ × ℕ)
    → position_past p (found ++ m ∷ []) ≡ position_after m
position_past-last p [] m = refl
position_past-last p (x ∷ found) m = position_past-last (position_after x) found m

-- a match that is within its haystack is kept, and no other is
if_within-is : (haystack : List ℕ) (found : Option (ℕ × ℕ))
    → IsWithin haystack (if_within haystack found)
if_within-is haystack None = tt
if_within-is haystack (Some m) = grind (arith, and_parts, leb-true)

module _ (meaning : Meaning) (bytes : List ℕ) where
  -- a match that is found starts at the position or after it, ends no earlier than it starts, and
  -- is within the bytes
  pub match_from-order : (p : ℕ) → IfSome {T = ℕ × ℕ} (match_from meaning bytes p)
      (λ m. (p ≤ m.0) × (m.0 ≤ m.1) × (m.1 ≤ length bytes))
  match_from-order p = grind (arith, if_within-is, ltb-true, length-drop)

  -- none is found from the end on
  match_from-end : (p : ℕ) → length bytes ≤ p → match_from meaning bytes p ≡ None
  match_from-end p over = let no = le-ltb p (length bytes) over in rw no refl

  -- as many as bytes are left are all
  pub matches_from-enough : (p n m : ℕ) → length bytes ≤ p + n → length bytes ≤ p + m
      → matches_from meaning bytes p n ≡ matches_from meaning bytes p m
  matches_from-enough p zero zero some more = refl
  matches_from-enough p zero (suc m) some more = let none = match_from-end p (omega arith) in rw
      (none, matches_from) refl
  matches_from-enough p (suc n) zero some more = let none = match_from-end p (omega arith) in rw
      (none, matches_from) refl
  matches_from-enough p (suc n) (suc m) some more =
      go (match_from meaning bytes p) (match_from-order p)
      (λ q later. matches_from-enough q n m (omega arith) (omega arith))
    where
      go : (found : Option (ℕ × ℕ)) → IfSome {T = ℕ × ℕ} found (λ m. (p ≤ m.0) × (m.0 ≤ m.1)
          × (m.1 ≤ length bytes))
          → ((q : ℕ) → p < q → matches_from meaning bytes q n ≡ matches_from meaning bytes q m)
          → elim found as (λ x. List (ℕ × ℕ)) [
            | None ↦ []
            | Some x ↦ x
                ∷ matches_from meaning bytes (position_after x) n
          ]
          ≡ elim found as (λ x. List (ℕ × ℕ)) [
            | None ↦ []
            | Some x ↦ x
                ∷ matches_from meaning bytes (position_after x) m
          ]
      go None order later = refl
      go (Some x) order later =
          ap (λ xs. x ∷ xs) (later (position_after x) (position_after-later p x order.0 order.1))

  -- a match that is found comes first, and then those after it
  matches_from-found : (p : ℕ) (m : ℕ × ℕ) → match_from meaning bytes p ≡ Some m
      → matches_from meaning bytes p (length bytes) ≡ m
      ∷ matches_from meaning bytes (position_after m) (length bytes)
  matches_from-found p m is =
      grind (
        arith,
        matches_from-enough,
        position_after-later,
        match_from-end,
        cases_lt,
        match_from-order,
      )

  -- where none is found there are none
  matches_from-none : (p : ℕ) (n : ℕ) → match_from meaning bytes p ≡ None
      → matches_from meaning bytes p n ≡ []
  matches_from-none p zero is = refl
  matches_from-none p (suc n) is = rw (is, matches_from) refl

  -- all start at the position or after it
  matches_from-after : (low p n : ℕ) → low ≤ p
      → All (λ m. low ≤ m.0) (matches_from meaning bytes p n)
  matches_from-after low p zero over = All-nil (λ m. low ≤ m.0)
  matches_from-after low p (suc n) over =
      go (match_from meaning bytes p) (match_from-order p)
      (λ q later. matches_from-after low q n (omega arith))
    where
      go : (found : Option (ℕ × ℕ)) → IfSome {T = ℕ × ℕ} found (λ m. (p ≤ m.0) × (m.0 ≤ m.1)
          × (m.1 ≤ length bytes))
          → ((q : ℕ) → p < q → All (λ m. low ≤ m.0) (matches_from meaning bytes q n))
          → All (λ m. low ≤ m.0)
          (elim found as (λ x. List (ℕ × ℕ)) [
            | None ↦ []
            | Some x ↦ x
                ∷ matches_from meaning bytes (position_after x) n
          ])
      go None order later = All-nil (λ m. low ≤ m.0)
      go (Some x) order later =
          All-cons (λ m. low ≤ m.0) x _ (omega (arith, order.0))
          (later (position_after x) (position_after-later p x order.0 order.1))

  -- of those that count, the first is the one found first, and the others are those after it
  pub matches_left-found : (p : ℕ) (left : Option ℕ) (m : ℕ × ℕ) → match_from meaning bytes p
      ≡ Some m → is_below 0 left ≡ true
      → matches_left meaning bytes p left ≡ m ∷ matches_left meaning bytes (position_after m)
      (option_map (λ n. n - 1) left)
  matches_left-found p None m is room = matches_from-found p m is
  matches_left-found p (Some zero) m is room = grind (arith, clash)
  matches_left-found p (Some (suc left)) m is room = grind (arith, matches_from-found)

  pub matches_left-none : (p : ℕ) (left : Option ℕ) → match_from meaning bytes p ≡ None
      → matches_left meaning bytes p left ≡ []
  matches_left-none p None is = matches_from-none p (length bytes) is
  matches_left-none p (Some left) is = ap (take left) (matches_from-none p (length bytes) is)
      ∙ take-nil left

  pub matches_left-end : (p : ℕ) (left : Option ℕ) → length bytes ≤ p
      → matches_left meaning bytes p left ≡ []
  matches_left-end p left over = matches_left-none p left (match_from-end p over)

  pub matches_left-full : (p : ℕ) (left : Option ℕ) → is_below 0 left ≡ false
      → matches_left meaning bytes p left ≡ []
  matches_left-full p None full = grind (arith, clash)
  matches_left-full p (Some zero) full = refl
  matches_left-full p (Some (suc left)) full = grind (arith, clash, lt-ltb)

  pub matches_left-after : (p : ℕ) (left : Option ℕ)
      → All (λ m. p ≤ m.0) (matches_left meaning bytes p left)
  matches_left-after p None = matches_from-after p p (length bytes) (omega arith)
  matches_left-after p (Some left) =
      All-take (λ m. p ≤ m.0) left (matches_from meaning bytes p (length bytes))
      (matches_from-after p p (length bytes) (omega arith))

  -- at the start they are those that the limit has
  pub matches_left-start : (limit : Option ℕ) → matches_up_to meaning bytes limit
      ≡ matches_left meaning bytes 0 limit
  matches_left-start None = refl
  matches_left-start (Some limit) = refl

  -- what a matcher finds in the rest of the bytes is the next match
  pub match_from-found : (p : ℕ) (m : ℕ × ℕ) → p < length bytes → IsWithin (drop p bytes) (Some m)
      → meaning.first (drop p bytes) ≡ Some m → match_from meaning bytes p ≡ Some (p + m.0, p + m.1)
  match_from-found p m below inside is = grind arith

  pub match_from-missed : (p : ℕ) → meaning.first (drop p bytes) ≡ None → match_from meaning bytes p
      ≡ None
  match_from-missed p is = grind arith
