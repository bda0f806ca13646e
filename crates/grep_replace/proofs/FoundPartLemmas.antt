-- What the search for the parts of some bytes has found.
use Rattle.std.proofs.Common.{◌≡◌, ℕ, zero, suc, ◌+◌, ◌≤◌, List, [], ◌∷◌, ◌++◌, Option, Some, None, Bool, true, false}
use Rattle.std.proofs.Common.{ap, arith, sym, ◌∙◌, append_assoc, refl}
use Rattle.std.proofs.lemmas.Bool.Decides.{nat_tests}
use Rattle.std.proofs.lemmas.List.Elements.{All-nil, All-cons}
use Rattle.std.specs.Option.{option_map_or}
use Rattle.std.specs.Prelude.{All, if◌then◌else◌}
use Rattle.grep_replace.specs.MatchedParts.{AreInOrder, LiesFrom, found_from, is_passed, parts_from}
use Rattle.grep_replace.specs.MatchedParts.{parts_in, position_after, with_part}

-- where the last of some parts ends, or a position if there is none
abbrev pub last_end : ℕ → List (ℕ × ℕ) → ℕ
last_end low [] = low
last_end low (part ∷ later) = last_end part.1 later

last-pushed : (parts : List (ℕ × ℕ)) (low : ℕ) (part : ℕ × ℕ) → last_end low (parts ++ part ∷ []) ≡ part.1
last-pushed [] low part = refl
last-pushed (first ∷ later) low part = last-pushed later first.1 part

-- one more part, after the others
ordered-pushed : (parts : List (ℕ × ℕ)) (low high : ℕ) (part : ℕ × ℕ) → AreInOrder low high parts
    → last_end low parts ≤ part.0 → part.0 ≤ part.1 → part.1 ≤ high → AreInOrder low high (parts ++ part ∷ [])
ordered-pushed [] low high part ordered after inner within = (after, inner, within, tt)
ordered-pushed (first ∷ later) low high part ordered after inner within =
    (ordered.0, ordered.1, ordered.2, ordered-pushed later first.1 high part ordered.3 after inner within)

-- parts that begin at a position or after it begin at an earlier one or after it
pub ordered-from : (parts : List (ℕ × ℕ)) (low other high : ℕ) → other ≤ low → AreInOrder low high parts
    → AreInOrder other high parts
ordered-from [] low other high less ordered = tt
ordered-from (first ∷ later) low other high less ordered =
    (omega (arith, ordered.0), ordered.1, ordered.2, ordered.3)

-- parts that end by a position end by a later one
pub ordered-within : (parts : List (ℕ × ℕ)) (low high other : ℕ) → high ≤ other → AreInOrder low high parts
    → AreInOrder low other parts
ordered-within [] low high other less ordered = tt
ordered-within (first ∷ later) low high other less ordered =
    (ordered.0, ordered.1, omega (arith, less, ordered.2), ordered-within later first.1 high other less ordered.3)

-- parts that lie in order by a position end by a later one
pub ends-within : (parts : List (ℕ × ℕ)) (low high size : ℕ) → high ≤ size → AreInOrder low high parts
    → All (λ part. part.1 ≤ size) parts
ends-within [] low high size less ordered = All-nil (λ part. part.1 ≤ size)
ends-within (part ∷ later) low high size less ordered =
    let ends : part.1 ≤ size = omega (arith, less, ordered.2) in
    All-cons (λ part. part.1 ≤ size) part later ends (ends-within later part.1 high size less ordered.3)

-- the search for the next match begins later
pub after-later : (position : ℕ) (found : ℕ × ℕ) → position ≤ found.0 → found.0 ≤ found.1
    → position + 1 ≤ position_after found
after-later position found from inner = grind (arith, nat_tests)

pub after-end : (found : ℕ × ℕ) → found.1 ≤ position_after found
after-end found = grind (arith, nat_tests)

module _ (first_at : ℕ → Option (ℕ × ℕ)) (size limit : ℕ) where
  -- the parts up to a position are found, where the match before may have ended, and these are left
  pub record IsFinding (parts : List (ℕ × ℕ)) (position : ℕ) (end : Option ℕ) : Type 0 where
    pub count : ℕ
    pub enough : size + 1 ≤ position + count
    pub found : parts ++ parts_from first_at size limit count position end ≡ parts_in first_at size limit
    pub ordered : AreInOrder 0 limit parts
    pub behind : last_end 0 parts ≤ position

  -- none is found yet
  pub finding-none : IsFinding [] 0 None
  unfolding parts_in
  finding-none =
      record { count = size + 1; enough = omega arith; found = refl; ordered = tt; behind = omega arith }

  -- one more search finds a match: its part, unless the match is passed over, and then those after
  pub from-found : (count position : ℕ) (end : Option ℕ) (found : ℕ × ℕ)
      → found_from first_at size limit position ≡ Some found
      → parts_from first_at size limit (suc count) position end
      ≡ with_part end found (parts_from first_at size limit count (position_after found) (Some found.1))
  from-found count position end found is = ap (λ (f : Option (ℕ × ℕ)). option_map_or
      (λ m. with_part end m (parts_from first_at size limit count (position_after m) (Some m.1))) f []) is

  pub passed-with : (end : Option ℕ) (found : ℕ × ℕ) (later : List (ℕ × ℕ)) → is_passed end found ≡ true
      → with_part end found later ≡ later
  passed-with end found later passed = rw passed refl

  pub kept-with : (end : Option ℕ) (found : ℕ × ℕ) (later : List (ℕ × ℕ)) → is_passed end found ≡ false
      → with_part end found later ≡ found ∷ later
  kept-with end found later kept = rw kept refl

  -- there is one more search, since the match that it finds lies in the bytes
  pub one-more : (count position : ℕ) → size + 1 ≤ position + count → position ≤ size
      → (fewer : ℕ) × (count ≡ suc fewer)
  one-more zero position enough within = absurd (omega arith)
  one-more (suc fewer) position enough within = (fewer, refl)

  -- a match is found that is passed over
  finding-passed : (parts : List (ℕ × ℕ)) (position : ℕ) (end : Option ℕ) (found : ℕ × ℕ)
      → IsFinding parts position end → found_from first_at size limit position ≡ Some found
      → position ≤ found.0 → found.0 ≤ found.1 → found.1 ≤ size → is_passed end found ≡ true
      → IsFinding parts (position_after found) (Some found.1)
  finding-passed parts position end found finding is from inner within passed =
      let left = one-more finding.count position finding.enough (omega arith) in
      let later : position + 1 ≤ position_after found = after-later position found from inner in
      let enough = finding.enough in let behind = finding.behind in let count = left.1 in
      let next = ap (λ n. parts_from first_at size limit n position end) left.1
      ∙ (from-found left.0 position end found is ∙ passed-with end found _ passed) in
      record {
        count = left.0;
        enough = omega (arith, later, enough, count);
        found = ap (λ (ps : List (ℕ × ℕ)). parts ++ ps) (sym next) ∙ finding.found;
        ordered = finding.ordered;
        behind = omega (arith, later, behind);
      }

  -- a match is found that is a part
  finding-kept : (parts : List (ℕ × ℕ)) (position : ℕ) (end : Option ℕ) (found : ℕ × ℕ)
      → IsFinding parts position end → found_from first_at size limit position ≡ Some found
      → position ≤ found.0 → found.0 ≤ found.1 → found.1 ≤ size → found.1 ≤ limit → is_passed end found ≡ false
      → IsFinding (parts ++ found ∷ []) (position_after found) (Some found.1)
  finding-kept parts position end found finding is from inner within ends kept =
      let left = one-more finding.count position finding.enough (omega arith) in
      let later : position + 1 ≤ position_after found = after-later position found from inner in
      let enough = finding.enough in let behind = finding.behind in let count = left.1 in
      let next = ap (λ n. parts_from first_at size limit n position end) left.1
      ∙ (from-found left.0 position end found is ∙ kept-with end found _ kept) in
      record {
        count = left.0;
        enough = omega (arith, later, enough, count);
        found = append_assoc parts (found ∷ []) _ ∙ (ap (λ (ps : List (ℕ × ℕ)). parts ++ ps) (sym next)
            ∙ finding.found);
        ordered = ordered-pushed parts 0 limit found finding.ordered (omega (arith, behind)) inner ends;
        behind = rw (last-pushed parts 0 found) (after-end found);
      }

  -- a match is found
  pub finding-more : (parts : List (ℕ × ℕ)) (position : ℕ) (end : Option ℕ) (found : ℕ × ℕ) (new : List (ℕ × ℕ))
      → IsFinding parts position end → found_from first_at size limit position ≡ Some found
      → LiesFrom position size limit (Some found)
      → new ≡ (if is_passed end found then parts else parts ++ found ∷ [])
      → IsFinding new (position_after found) (Some found.1)
  finding-more parts position end found new finding is lies pushed =
      rw pushed (go (is_passed end found) refl)
    where
      go : (passed : Bool) → is_passed end found ≡ passed
          → IsFinding (if passed then parts else parts ++ found ∷ []) (position_after found) (Some found.1)
      go true passed = finding-passed parts position end found finding is lies.0 lies.1 lies.2 passed
      go false kept = finding-kept parts position end found finding is lies.0 lies.1 lies.2 lies.3 kept
