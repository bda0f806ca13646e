-- A class of a glob, a text in brackets: where it ends, and which bytes it stands for.
use Rattle.std.specs.Prelude.{◌≡◌, ◌≢◌, ◌⊎◌, ℕ, ◌<◌, ◌≤◌, Bool, true, false, not, ◌&&◌, ◌==◌}
use Rattle.std.specs.Prelude.{if◌then◌else◌, List, [], ◌∷◌, ◌++◌, length, nat_lt}
use Rattle.std.specs.List.{list_any}
use Rattle.grep_ignore.specs.Classes.{IsSet, begins_range, begins_with, is_either, is_in_range}
use Rattle.grep_ignore.specs.Classes.{is_negated, members_of}

-- some members of a class: at least one byte, and a closing bracket is a member only as the first
abbrev pub are_members : List ℕ → Bool
are_members [] = false
are_members (first ∷ later) = not (list_any (λ byte. byte == 93) later)

-- what is between the brackets of a class: its members, maybe after a mark
abbrev pub is_class : List ℕ → Bool
is_class class = are_members (members_of class)

-- a text has a class, without its opening bracket, then a closing bracket, and a rest
abbrev pub IsClassBefore : List ℕ → List ℕ → Type 0
IsClassBefore text rest = (class : List ℕ) × (text ≡ class ++ 93 ∷ rest) × (is_class class ≡ true)

-- a text has the members of a class, then a closing bracket, and a rest
abbrev pub AreMembersBefore : List ℕ → List ℕ → Type 0
AreMembersBefore text rest = (members : List ℕ) × (text ≡ members ++ rest)
    × (are_members members ≡ true)

-- a member is a byte, or a range from a byte to the one after a dash. Another dash and byte move
-- its end
pub data IsRange : ℕ × ℕ → List ℕ → List ℕ → Type 0 where
  of_byte : (byte : ℕ) (rest : List ℕ) → IsRange (byte, byte) (byte ∷ rest) rest
  of_end : {text : List ℕ} (first middle last : ℕ) (rest : List ℕ)
      → IsRange (first, middle) text (45 ∷ last ∷ rest) → last ≢ 93 → first ≤ last
      → IsRange (first, last) text rest

-- some members, the last one first, each as long as it can be; only the first may begin with a
-- closing bracket
abbrev pub AreRanges : List (ℕ × ℕ) → List ℕ → List ℕ → Type 0
AreRanges [] text rest = text ≡ rest
AreRanges (range ∷ before) text rest = (mid : List ℕ) × AreRanges before text mid
    × ((before ≡ []) ⊎ (begins_with 93 mid ≡ false)) × IsRange range mid rest
    × (begins_range rest ≡ false)

-- a set has the bytes of the members before a rest
abbrev pub HasRanges : Bool → List Bool → List ℕ → List ℕ → Type 0
HasRanges ignores_case set text rest = (ranges : List (ℕ × ℕ)) × (0 < length ranges)
    × AreRanges ranges text rest
    × IsSet set (is_either ignores_case (λ b. list_any (λ range. is_in_range range b) ranges))

-- whether a class stands for a byte, by its members. If it begins with a mark, it stands for all
-- other bytes
abbrev pub is_of_class : Bool → Bool → List (ℕ × ℕ) → ℕ → Bool
is_of_class ignores_case negates ranges byte =
    let is_member = is_either ignores_case
    (λ b. list_any (λ range. is_in_range range b) ranges) byte in
    if negates then nat_lt byte 256 && not is_member else is_member

-- the set of the bytes that a class stands for. The text has the class, without its opening
-- bracket, and a rest
abbrev pub IsClassOf : Bool → List Bool → List ℕ → List ℕ → Type 0
IsClassOf ignores_case set text rest = (ranges : List (ℕ × ℕ)) × (0 < length ranges)
    × AreRanges ranges (members_of text) (93 ∷ rest)
    × IsSet set (is_of_class ignores_case (is_negated text) ranges)

-- a text begins with a range that ends before it begins
abbrev pub IsReversed : List ℕ → Type 0
IsReversed text = (first middle last : ℕ) × (rest : List ℕ)
    × IsRange (first, middle) text (45 ∷ last ∷ rest) × (last ≢ 93) × (last < first)

-- members can't be read up to a closing bracket: after some of them the text is at its end, or a
-- range ends before it begins
abbrev pub AreCut : List ℕ → Type 0
AreCut text = (ranges : List (ℕ × ℕ)) × (rest : List ℕ) × AreRanges ranges text rest
    × ((ranges ≡ []) ⊎ (begins_with 93 rest ≡ false)) × ((rest ≡ []) ⊎ IsReversed rest)

-- a class, after its opening bracket, isn't closed, or a range of it ends before it begins
abbrev pub IsMalformedClass : List ℕ → Type 0
IsMalformedClass text = AreCut (members_of text)
