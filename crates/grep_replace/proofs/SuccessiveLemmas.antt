-- The parts of some bytes are successive matches.
use Rattle.std.proofs.Common.{◌≡◌, ℕ, zero, suc, ◌+◌, ◌-◌, ◌<◌, ◌≤◌, List, [], ◌∷◌, length, Option, Some, None, Bool}
use Rattle.std.proofs.Common.{true, false, arith, ap, sym, ◌∙◌, refl, subst}
use Rattle.std.proofs.lemmas.Bool.{and_parts}
use Rattle.std.proofs.lemmas.Bool.Decides.{nat_tests}
use Rattle.std.proofs.lemmas.List.Elements.{All-cons, All-nil}
use Rattle.std.proofs.Math.Path.{fun_ext}
use Rattle.std.specs.Option.{option_and_then, option_map, option_map_or}
use Rattle.std.specs.Prelude.{All, ◌&&◌, if◌then◌else◌, nat_le, nat_lt}
use Rattle.grep_matcher.specs.FindResults.{IsFrom}
use Rattle.grep_replace.proofs.FoundPartLemmas.{after-later, from-found}
use Rattle.grep_replace.specs.MatchedParts.{AreSuccessive, all_parts, below, first_from, found_from, is_passed}
use Rattle.grep_replace.specs.MatchedParts.{next_part, parts_from, parts_in, position_after, with_part}

-- a match that is found from a position in so many bytes lies in them, and starts there or later
abbrev FindsFrom : (ℕ → Option (ℕ × ℕ)) → ℕ → Type 0
FindsFrom first_at size = (position : ℕ) (found : ℕ × ℕ) → position ≤ size → first_at position ≡ Some found
    → (position ≤ found.0) × (found.0 ≤ found.1) × (found.1 ≤ size)

-- so it is from a start on
finds-from : (bytes : List ℕ) (start : ℕ) (first_at : ℕ → Option (ℕ × ℕ)) → start ≤ length bytes
    → ((position : ℕ) → position ≤ length bytes → IsFrom position bytes (first_at position))
    → FindsFrom (first_from first_at start) (length bytes - start)
finds-from bytes start first_at begins within position found fits is =
    go (first_at (start + position)) (within (start + position) (omega (arith, fits, begins))) is
  where
    go : (first : Option (ℕ × ℕ)) → IsFrom (start + position) bytes first
        → option_map (λ m. (m.0 - start, m.1 - start)) first ≡ Some found
        → (position ≤ found.0) × (found.0 ≤ found.1) × (found.1 ≤ length bytes - start)
    go None lies none = absurd cc
    go (Some m) lies some =
        let from : m.0 - start ≡ found.0 = cc in
        let to : m.1 - start ≡ found.1 = cc in
        let after = lies.0 in let inner = lies.1.0 in let within_all = lies.1.1 in (
          omega (arith, from, after),
          omega (arith, from, to, after, inner),
          omega (arith, to, after, inner, within_all),
        )

-- a match below a limit is the match
below-is : (limit : ℕ) (first : Option (ℕ × ℕ)) (found : ℕ × ℕ) → below limit first ≡ Some found → first ≡ Some found
below-is limit None found is = absurd (cc)
below-is limit (Some other) found is = go (nat_lt other.0 limit && nat_le other.1 limit) is
  where
    go : (low : Bool) → (if low then Some other else None) ≡ Some found → Some other ≡ Some found
    go true is = is
    go false is = absurd (cc)

-- after a match that is passed over the search goes on one byte later
passed-after : (end : Option ℕ) (found : ℕ × ℕ) → is_passed end found ≡ true → position_after found ≡ found.1 + 1
passed-after None found passed = absurd (cc)
passed-after (Some at) found passed = grind (arith, nat_tests)

-- so the next match isn't passed over
later-kept : (found other : ℕ × ℕ) → found.1 + 1 ≤ other.1 → is_passed (Some found.1) other ≡ false
later-kept found other later = grind (arith, nat_tests)

module _ (first_at : ℕ → Option (ℕ × ℕ)) (size limit : ℕ) (finds : FindsFrom first_at size) where
  -- a match that is found is in order
  found-lies : (position : ℕ) (found : ℕ × ℕ) → found_from first_at size limit position ≡ Some found
      → (position ≤ found.0) × (found.0 ≤ found.1) × (found.1 ≤ size)
  found-lies position found is = go (nat_le position size) refl is
    where
      go : (low : Bool) → nat_le position size ≡ low
          → (if low then below limit (first_at position) else None) ≡ Some found
          → (position ≤ found.0) × (found.0 ≤ found.1) × (found.1 ≤ size)
      go true low is =
          finds position found (grind (arith, nat_tests)) (below-is limit (first_at position) found is)
      go false low is = absurd (cc)

  -- which parts are successive depends on the next part alone
  are-same : (position other : ℕ) (end before : Option ℕ) (parts : List (ℕ × ℕ))
      → next_part first_at size limit position end ≡ next_part first_at size limit other before
      → AreSuccessive first_at size limit other before parts → AreSuccessive first_at size limit position end parts
  are-same position other end before [] same are = same ∙ are
  are-same position other end before (part ∷ later) same are = (same ∙ are.0, are.1)

  -- after a match that is passed over the next part is the next match
  next-passed : (position : ℕ) (end : Option ℕ) (found : ℕ × ℕ) → found_from first_at size limit position ≡ Some found
      → is_passed end found ≡ true
      → next_part first_at size limit position end
      ≡ next_part first_at size limit (position_after found) (Some found.1)
  next-passed position end found is passed =
      ap (λ (f : Option (ℕ × ℕ)). option_and_then
      (λ m. if is_passed end m then found_from first_at size limit (position_after m) else Some m) f) is
      ∙ (ap (λ b. if b then found_from first_at size limit (position_after found) else Some found) passed
      ∙ sym (kept (found_from first_at size limit (position_after found)) refl))
    where
      kept : (next : Option (ℕ × ℕ)) → found_from first_at size limit (position_after found) ≡ next
          → option_and_then
          (λ m. if is_passed (Some found.1) m then found_from first_at size limit (position_after m) else Some m) next
          ≡ next
      kept None none = refl
      kept (Some other) some =
          let lies = found-lies (position_after found) other some in
          let after = passed-after end found passed in
          let later : found.1 + 1 ≤ other.1 = omega (arith, after, lies.0, lies.1) in
          ap (λ b. if b then found_from first_at size limit (position_after other) else Some other)
          (later-kept found other later)

  -- a match that is found is the next part, unless it is passed over
  with-one : (position : ℕ) (end : Option ℕ) (found : ℕ × ℕ) (later : List (ℕ × ℕ))
      → found_from first_at size limit position ≡ Some found
      → AreSuccessive first_at size limit (position_after found) (Some found.1) later
      → AreSuccessive first_at size limit position end (with_part end found later)
  with-one position end found later is are = go (is_passed end found) refl
    where
      go : (passed : Bool) → is_passed end found ≡ passed
          → AreSuccessive first_at size limit position end (if passed then later else found ∷ later)
      go true passed =
          are-same position (position_after found) end (Some found.1) later (next-passed position end found is passed) are
      go false kept = (
        ap (λ (f : Option (ℕ × ℕ)). option_and_then
            (λ m. if is_passed end m then found_from first_at size limit (position_after m) else Some m) f) is
            ∙ ap (λ b. if b then found_from first_at size limit (position_after found) else Some found) kept,
        are,
      )

  -- without a match there is no part
  without-one : (position : ℕ) (end : Option ℕ) → found_from first_at size limit position ≡ None
      → AreSuccessive first_at size limit position end []
  without-one position end none = ap (λ (f : Option (ℕ × ℕ)). option_and_then
      (λ m. if is_passed end m then found_from first_at size limit (position_after m) else Some m) f) none

  -- so many searches find the successive parts, if they reach the end
  from-are : (count position : ℕ) (end : Option ℕ) → size + 1 ≤ position + count
      → AreSuccessive first_at size limit position end (parts_from first_at size limit count position end)
  from-are zero position end enough = without-one position end (go (nat_le position size) refl)
    where
      go : (low : Bool) → nat_le position size ≡ low
          → (if low then below limit (first_at position) else None) ≡ None
      go true low = absurd (grind (arith, nat_tests))
      go false low = refl
  from-are (suc count) position end enough =
      go (found_from first_at size limit position) refl
      (λ (found : ℕ × ℕ) more. from-are count (position_after found) (Some found.1) more)
    where
      go : (first : Option (ℕ × ℕ)) → found_from first_at size limit position ≡ first
          → ((found : ℕ × ℕ) → size + 1 ≤ position_after found + count
          → AreSuccessive first_at size limit (position_after found) (Some found.1)
          (parts_from first_at size limit count (position_after found) (Some found.1)))
          → AreSuccessive first_at size limit position end
          (parts_from first_at size limit (suc count) position end)
      go None none later = subst (AreSuccessive first_at size limit position end)
          (sym (ap (λ (f : Option (ℕ × ℕ)). option_map_or
          (λ m. with_part end m (parts_from first_at size limit count (position_after m) (Some m.1))) f []) none))
          (without-one position end none)
      go (Some found) is later =
          let lies = found-lies position found is in
          let after : position + 1 ≤ position_after found = after-later position found lies.0 lies.1 in
          subst (AreSuccessive first_at size limit position end)
          (sym (from-found first_at size limit count position end found is))
          (with-one position end found
          (parts_from first_at size limit count (position_after found) (Some found.1)) is
          (later found (omega (arith, after, enough))))

-- the parts lie before the limit
below-lies : (limit : ℕ) (first : Option (ℕ × ℕ)) (found : ℕ × ℕ) → below limit first ≡ Some found
    → (found.0 < limit) × (found.1 ≤ limit)
below-lies limit None found is = absurd (cc)
below-lies limit (Some other) found is = go (nat_lt other.0 limit && nat_le other.1 limit) refl is
  where
    go : (low : Bool) → (nat_lt other.0 limit && nat_le other.1 limit) ≡ low
        → (if low then Some other else None) ≡ Some found → (found.0 < limit) × (found.1 ≤ limit)
    go true low is =
        let same : other ≡ found = cc in
        let both = and_parts (nat_lt other.0 limit) (nat_le other.1 limit) low in
        subst (λ (m : ℕ × ℕ). (m.0 < limit) × (m.1 ≤ limit)) same
        (grind (arith, nat_tests, both), grind (arith, nat_tests, both))
    go false low is = absurd (cc)

module _ (first_at : ℕ → Option (ℕ × ℕ)) (size limit : ℕ) where
  abbrev LiesBelow : ℕ × ℕ → Type 0
  LiesBelow part = (part.0 < limit) × (part.1 ≤ limit)

  found-below : (position : ℕ) (found : ℕ × ℕ) → found_from first_at size limit position ≡ Some found → LiesBelow found
  found-below position found is = go (nat_le position size) is
    where
      go : (low : Bool) → (if low then below limit (first_at position) else None) ≡ Some found → LiesBelow found
      go true is = below-lies limit (first_at position) found is
      go false is = absurd (cc)

  with-below : (passed : Bool) (found : ℕ × ℕ) (later : List (ℕ × ℕ)) → LiesBelow found → All LiesBelow later
      → All LiesBelow (if passed then later else found ∷ later)
  with-below true found later here lie = lie
  with-below false found later here lie = All-cons LiesBelow found later here lie

  from-below : (count position : ℕ) (end : Option ℕ)
      → All LiesBelow (parts_from first_at size limit count position end)
  from-below zero position end = All-nil LiesBelow
  from-below (suc count) position end =
      go (found_from first_at size limit position) refl (λ after before. from-below count after before)
    where
      go : (first : Option (ℕ × ℕ)) → found_from first_at size limit position ≡ first
          → ((after : ℕ) (before : Option ℕ)
          → All LiesBelow (parts_from first_at size limit count after before))
          → All LiesBelow (option_map_or
          (λ found. with_part end found (parts_from first_at size limit count (position_after found) (Some found.1)))
          first [])
      go None none later = All-nil LiesBelow
      go (Some found) is later =
          with-below (is_passed end found) found
          (parts_from first_at size limit count (position_after found) (Some found.1)) (found-below position found is)
          (later (position_after found) (Some found.1))

  pub parts-below : All (λ part. (part.0 < limit) × (part.1 ≤ limit)) (parts_in first_at size limit)
  unfolding parts_in
  parts-below = from-below (size + 1) 0 None

-- and are successive
pub parts-are-successive : (bytes : List ℕ) (start limit : ℕ) (first_at : ℕ → Option (ℕ × ℕ)) → start ≤ length bytes
    → ((position : ℕ) → position ≤ length bytes → IsFrom position bytes (first_at position))
    → AreSuccessive (first_from first_at start) (length bytes - start) limit 0 None
    (parts_in (first_from first_at start) (length bytes - start) limit)
unfolding parts_in
parts-are-successive bytes start limit first_at begins within =
    from-are (first_from first_at start) (length bytes - start) limit (finds-from bytes start first_at begins within)
    (length bytes - start + 1) 0 None (omega arith)

-- from 0 on the first matches are the same
from-zero : (first_at : ℕ → Option (ℕ × ℕ)) → first_from first_at 0 ≡ first_at
from-zero first_at =
    fun_ext (λ position. same (first_at (0 + position)) ∙ ap first_at (plain position))
  where
    plain : (position : ℕ) → 0 + position ≡ position
    plain position = omega arith

    same : (found : Option (ℕ × ℕ)) → option_map (λ m. (m.0 - 0, m.1 - 0)) found ≡ found
    same None = refl
    same (Some m) =
        let start : m.0 - 0 ≡ m.0 = omega arith in
        let end : m.1 - 0 ≡ m.1 = omega arith in
        rw (start, end) refl

-- so are the parts
pub all-found : (first_at : ℕ → Option (ℕ × ℕ)) (size : ℕ)
    → parts_in (first_from first_at 0) (size - 0) (size + 1) ≡ all_parts first_at size
all-found first_at size =
    let whole : size - 0 ≡ size = omega arith in
    rw (whole, from-zero first_at) refl

-- and they are successive
pub all-are-successive : (bytes : List ℕ) (first_at : ℕ → Option (ℕ × ℕ))
    → ((position : ℕ) → position ≤ length bytes → IsFrom position bytes (first_at position))
    → AreSuccessive first_at (length bytes) (length bytes + 1) 0 None (all_parts first_at (length bytes))
unfolding parts_in
all-are-successive bytes first_at within =
    from-are first_at (length bytes) (length bytes + 1) (λ position found fits is.
    let lies = subst (IsFrom position bytes) is (within position fits) in (lies.0, lies.1.0, lies.1.1))
    (length bytes + 1) 0 None (omega arith)
