-- The parts of some bytes that match: the successive matches of a matcher in them.
use Rattle.std.specs.Prelude.{◌≡◌, ℕ, zero, suc, ◌+◌, ◌-◌, ◌≤◌, ◌&&◌, ◌==◌, Bool, false}
use Rattle.std.specs.Prelude.{if◌then◌else◌}
use Rattle.std.specs.Prelude.{nat_lt, nat_le, List, [], ◌∷◌, length, Option, Some, None}
use Rattle.std.specs.Option.{IfSome, option_and_then, option_map, option_map_or}

-- the parts lie between two positions, in order, and none overlaps another one
abbrev pub AreInOrder : ℕ → ℕ → List (ℕ × ℕ) → Type 0
AreInOrder low high [] = Unit {0}
AreInOrder low high (part ∷ later) =
    (low ≤ part.0) × (part.0 ≤ part.1) × (part.1 ≤ high) × AreInOrder part.1 high later

-- whether a part ends after a position
abbrev pub ends_after : ℕ → ℕ × ℕ → Bool
ends_after position part = nat_lt position part.1

-- the parts without the first ones that start before a position and end by it
abbrev pub parts_after : ℕ → List (ℕ × ℕ) → List (ℕ × ℕ)
parts_after position [] = []
parts_after position (part ∷ later) =
    if nat_lt part.0 position && nat_le part.1 position
    then parts_after position later
    else part ∷ later

-- where the search for the next match begins: at the end of a match, or one byte later if the match
-- is empty
abbrev pub position_after : ℕ × ℕ → ℕ
position_after found = if found.0 == found.1 then found.1 + 1 else found.1

-- whether a match is empty, and the one before it ended there
abbrev pub is_passed : Option ℕ → ℕ × ℕ → Bool
is_passed None found = false
is_passed (Some end) found = found.0 == found.1 && found.1 == end

-- a match and the parts after it. If the match is passed over, only the parts after it
abbrev pub with_part : Option ℕ → ℕ × ℕ → List (ℕ × ℕ) → List (ℕ × ℕ)
with_part end found later = if is_passed end found then later else found ∷ later

-- a match, if it starts before a limit and ends by it
abbrev pub below : ℕ → Option (ℕ × ℕ) → Option (ℕ × ℕ)
below limit None = None
below limit (Some found) =
    if nat_lt found.0 limit && nat_le found.1 limit then Some found else None

-- a match lies in so many bytes, starts at a position or after it and before a limit, and ends by
-- the limit
abbrev pub LiesFrom : ℕ → ℕ → ℕ → Option (ℕ × ℕ) → Type 0
LiesFrom position size limit found = IfSome found (λ m.
    (position ≤ m.0) × (m.0 ≤ m.1) × (m.1 ≤ size) × (m.1 ≤ limit))

-- the first match from a position on, both counted from a start
abbrev pub first_from : (ℕ → Option (ℕ × ℕ)) → ℕ → ℕ → Option (ℕ × ℕ)
first_from first_at start position =
    option_map (λ m. (m.0 - start, m.1 - start)) (first_at (start + position))

module _ (first_at : ℕ → Option (ℕ × ℕ)) (size limit : ℕ) where
  -- the first match from a position on that starts before the limit and ends by it
  abbrev pub found_from : ℕ → Option (ℕ × ℕ)
  found_from position = if nat_le position size then below limit (first_at position) else None

  -- the parts that some number of searches find. The first search begins at a position, and `end`
  -- is where the match before it ended, if there was one
  abbrev pub parts_from : ℕ → ℕ → Option ℕ → List (ℕ × ℕ)
  parts_from zero position end = []
  parts_from (suc count) position end =
      option_map_or
      (λ found. with_part end found (parts_from count (position_after found) (Some found.1)))
      (found_from position) []

  -- all parts: each search begins where the match before ended, or one byte later if that match is
  -- empty, and an empty match isn't a part if the one before ended there
  unfoldable pub parts_in : List (ℕ × ℕ)
  parts_in = parts_from (size + 1) 0 None

  -- the first match from a position on that is a part. `end` is where the match before it ended, if
  -- there was one
  abbrev pub next_part : ℕ → Option ℕ → Option (ℕ × ℕ)
  next_part position end = option_and_then
      (λ found. if is_passed end found then found_from (position_after found) else Some found)
      (found_from position)

  -- each part is the next one after the part before it, and there is none after the last
  abbrev pub AreSuccessive : ℕ → Option ℕ → List (ℕ × ℕ) → Type 0
  AreSuccessive position end [] = next_part position end ≡ None
  AreSuccessive position end (part ∷ later) =
      (next_part position end ≡ Some part)
      × AreSuccessive (position_after part) (Some part.1) later

-- all matches in so many bytes that are parts, also an empty one at their very end
abbrev pub all_parts : (ℕ → Option (ℕ × ℕ)) → ℕ → List (ℕ × ℕ)
all_parts first_at size = parts_in first_at size (size + 1)

-- the parts that are looked for in any bytes, from a start on, are successive matches of a matcher
abbrev pub PartsAreSuccessive : {M : Type 0} → (M → List ℕ → ℕ → Option (ℕ × ℕ)) → Type 0
PartsAreSuccessive {M} first_at =
    (matcher : M) (bytes : List ℕ) (start limit : ℕ) → start ≤ length bytes
    → AreSuccessive (first_from (first_at matcher bytes) start) (length bytes - start) limit 0 None
    (parts_in (first_from (first_at matcher bytes) start) (length bytes - start) limit)

-- all parts of any bytes are those that are looked for from their start on, with a limit past their
-- end
abbrev pub AllPartsAreFound : {M : Type 0} → (M → List ℕ → ℕ → Option (ℕ × ℕ)) → Type 0
AllPartsAreFound {M} first_at =
    (matcher : M) (bytes : List ℕ)
    → parts_in (first_from (first_at matcher bytes) 0) (length bytes - 0) (length bytes + 1)
    ≡ all_parts (first_at matcher bytes) (length bytes)

-- and they are successive matches of a matcher
abbrev pub AllPartsAreSuccessive : {M : Type 0} → (M → List ℕ → ℕ → Option (ℕ × ℕ)) → Type 0
AllPartsAreSuccessive {M} first_at =
    (matcher : M) (bytes : List ℕ)
    → AreSuccessive (first_at matcher bytes) (length bytes) (length bytes + 1) 0 None
    (all_parts (first_at matcher bytes) (length bytes))
