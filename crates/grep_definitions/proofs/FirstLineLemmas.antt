-- What the definitions say of the first lines does not depend on the lines after them.
use Rattle.std.proofs.Common.{◌≡◌, ℕ, zero, suc, ◌+◌, ◌-◌, ◌<◌, ◌≤◌, Bool, true, ◌&&◌, List, []}
use Rattle.std.proofs.Common.{◌++◌, length, take, get_or, slice_index, refl, ap, ◌∙◌, arith, Some}
use Rattle.std.proofs.Common.{None, length-append, if◌then◌else◌}
use Rattle.std.proofs.lemmas.Bool.{lt-ltb}
use Rattle.std.proofs.lemmas.List.{get_or_append_left, take-append-le}
use Rattle.std.specs.Prelude.{nat_eq, nat_lt, nat_le, count_by}
use Rattle.std.specs.List.{concat}
use Rattle.grep_matcher.specs.Lines.{byte_of, lines}
use Rattle.grep_matcher.specs.Meanings.{Meaning}
use Rattle.grep_matcher.proofs.LineLemmas.{lines-append}
use Rattle.grep_definitions.specs.Plans.{selected_lines, Settings, some_below, count_below}
use Rattle.grep_definitions.specs.Plans.{first_below, ends_search, fills_limit, follows_selected}
use Rattle.grep_definitions.specs.Plans.{hits, is_chosen, is_selected, is_trailing, line, number}
use Rattle.grep_definitions.specs.Plans.{start}
use Rattle.grep_matcher.proofs.LineStartLemmas.{line_start-within}

-- as many pass if the tests agree
pub count_below-same : (p q : ℕ → Bool) (n : ℕ) → ((j : ℕ) → j < n → p j ≡ q j) → count_below p n
    ≡ count_below q n
count_below-same p q zero same = refl
count_below-same p q (suc n) same = rw (
  count_below-same p q n (λ j below. same j (omega arith)),
  same n (omega arith),
) refl

-- some number passes, or none, if the tests agree
pub some_below-same : (p q : ℕ → Bool) (n : ℕ) → ((j : ℕ) → j < n → p j ≡ q j) → some_below p n
    ≡ some_below q n
some_below-same p q zero same = refl
some_below-same p q (suc n) same = rw (
  some_below-same p q n (λ j below. same j (omega arith)),
  same n (omega arith),
) refl

-- the first that passes is the same if the tests agree
pub first_below-same : (p q : ℕ → Bool) (n : ℕ) → ((j : ℕ) → j < n → p j ≡ q j) → first_below p n
    ≡ first_below q n
first_below-same p q zero same = refl
first_below-same p q (suc n) same = rw (
  some_below-same p q n (λ j below. same j (omega arith)),
  first_below-same p q n (λ j below. same j (omega arith)),
  same n (omega arith),
) refl

-- bytes that are empty or end in a terminator
abbrev pub IsClosed : ℕ → List ℕ → Type 0
IsClosed t bytes = 0 < length bytes → slice_index bytes (length bytes - 1) ≡ t

module _ (k : Settings) (meaning : Meaning) (front back : List ℕ)
    (closed : IsClosed (byte_of k.line_terminator) front) where
  -- all bytes, and how many lines the front has
  abbrev whole : List ℕ
  whole = front ++ back

  abbrev n : ℕ
  n = length (lines (byte_of k.line_terminator) front)

  -- the lines of the front, and then those of the back
  pub all_lines : lines (byte_of k.line_terminator) whole ≡ lines (byte_of k.line_terminator) front
      ++ lines (byte_of k.line_terminator) back
  all_lines = lines-append (byte_of k.line_terminator) front back closed

  -- a line of the front is that line of the whole
  pub line-same : (i : ℕ) → i < n → line k whole i ≡ line k front i
  line-same i below = ap (λ ls. get_or ls i []) all_lines
      ∙ get_or_append_left (lines (byte_of k.line_terminator) front)
      (lines (byte_of k.line_terminator) back) [] i below

  -- it begins at the same offset
  pub start-same : (i : ℕ) → i ≤ n → start k whole i ≡ start k front i
  start-same i inside = ap (λ ls. length (concat (take i ls))) all_lines
      ∙ ap (λ ls. length (concat ls)) (take-append-le i (lines (byte_of k.line_terminator) front)
      (lines (byte_of k.line_terminator) back) inside)

  -- it hits in both or in neither
  pub hits-same : (i : ℕ) → i < n → hits k meaning whole i ≡ hits k meaning front i
  hits-same i below =
      let here : nat_lt i n ≡ true = lt-ltb i n below in
      let inside : i < length (lines (byte_of k.line_terminator) whole) = omega (
        arith,
        ap length all_lines,
        length-append (lines (byte_of k.line_terminator) front)
            (lines (byte_of k.line_terminator) back),
      ) in
      let there : nat_lt i (length (lines (byte_of k.line_terminator) whole))
      ≡ true = lt-ltb i (length (lines (byte_of k.line_terminator) whole)) inside in
      rw (here, there, line-same i below) refl

  -- it is chosen in both or in neither
  pub is_chosen-same : (i : ℕ) → i < n → is_chosen k meaning whole i ≡ is_chosen k meaning front i
  is_chosen-same i below =
      let before = count_below-same (hits k meaning whole) (hits k meaning front) i
      (λ j less. hits-same j (omega arith)) in
      rw (hits-same i below, before) refl

  -- it is trailing in both or in neither
  pub is_trailing-same : (i : ℕ) → i < n → is_trailing k meaning whole i
      ≡ is_trailing k meaning front i
  is_trailing-same i below =
      let before = count_below-same (hits k meaning whole) (hits k meaning front) i
      (λ j less. hits-same j (omega arith)) in
      rw (hits-same i below, before) refl

  -- it ends the chosen lines in both or in neither
  pub ends_search-same : (i : ℕ) → i < n → ends_search k meaning whole i
      ≡ ends_search k meaning front i
  ends_search-same i below =
      let before = some_below-same (is_chosen k meaning whole) (is_chosen k meaning front) i
      (λ j less. is_chosen-same j (omega arith)) in
      rw (is_chosen-same i below, before) refl

  -- it is selected in both or in neither
  pub is_selected-same : (i : ℕ) → i < n → is_selected k meaning whole i
      ≡ is_selected k meaning front i
  is_selected-same i below =
      let before = some_below-same (ends_search k meaning whole) (ends_search k meaning front) i
      (λ j less. ends_search-same j (omega arith)) in
      rw (is_chosen-same i below, before) refl

  -- it follows a selected line in both or in neither
  pub follows-same : (i : ℕ) → i < n → follows_selected k whole (selected_lines k meaning whole) i
      ≡ follows_selected k front (selected_lines k meaning front) i
  follows-same i below = some_below-same (λ j. nat_le (i - j) k.after_context
      && is_selected k meaning whole j)
      (λ j. nat_le (i - j) k.after_context && is_selected k meaning front j) i
      (λ j less. ap (λ b. nat_le (i - j) k.after_context && b) (is_selected-same j (omega arith)))

  -- it has the same number
  pub number-same : (i : ℕ) → i ≤ n → number k whole i ≡ number k front i
  number-same i inside =
      let cut : take (start k whole i) whole
      ≡ take (start k front i) front = ap (λ p. take p whole)
      (start-same i inside) ∙ take-append-le (start k front i) front back
      (line_start-within (byte_of k.line_terminator) front i) in
      ap (λ bs. if k.line_number then Some (count_by (λ b. nat_eq b (byte_of k.line_terminator)) bs
      + 1) else None) cut

  -- it fills the limit in both or in neither
  pub fills_limit-same : (i : ℕ) → i < n → fills_limit k meaning whole i
      ≡ fills_limit k meaning front i
  fills_limit-same i below =
      let before = count_below-same (hits k meaning whole) (hits k meaning front) i
      (λ j less. hits-same j (omega arith)) in
      rw (is_chosen-same i below, before) refl
