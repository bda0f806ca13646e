-- What a class of a glob, a text in brackets, stands for.
use Rattle.std.specs.Prelude.{◌≡◌, ◌≢◌, ℕ, ◌<◌, ◌+◌, ◌-◌, Bool, true, false, not, if◌then◌else◌}
use Rattle.std.specs.Prelude.{◌⊎◌, ◌&&◌, ◌||◌, ◌==◌, nat_lt, nat_le, List, [], ◌∷◌, length, drop}
use Rattle.std.specs.List.{list_any}
use Rattle.grep_matcher.specs.ByteSets.{holds}

-- a set has the bytes that a test says
abbrev pub IsSet : List Bool → (ℕ → Bool) → Type 0
IsSet set test = (byte : ℕ) → holds set byte ≡ test byte

-- a byte that a name may have: any but a slash
abbrev pub is_name_byte : ℕ → Bool
is_name_byte byte = nat_lt byte 256 && not (byte == 47)

-- a byte is in a range
abbrev pub is_between : ℕ × ℕ → ℕ → Bool
is_between range byte = nat_le range.0 byte && nat_le byte range.1

-- the letter of ASCII that a letter is in the other case; any other byte is itself
abbrev pub other_case : ℕ → ℕ
other_case byte =
    if is_between (65, 90) byte then byte + 32
    else if is_between (97, 122) byte then byte - 32 else byte

-- a byte passes a test, or if case is ignored the letter in the other case does
abbrev pub is_either : Bool → (ℕ → Bool) → ℕ → Bool
is_either ignores_case test byte = test byte || (ignores_case && test (other_case byte))

-- a byte is in a range of a class, whose first byte always is, even if it is past the last one
abbrev pub is_in_range : ℕ × ℕ → ℕ → Bool
is_in_range range byte = (byte == range.0) || is_between range byte

-- a text begins with a byte
abbrev pub begins_with : ℕ → List ℕ → Bool
begins_with first [] = false
begins_with first (byte ∷ rest) = byte == first

-- nothing is left
abbrev pub is_empty : List ℕ → Bool
is_empty [] = true
is_empty (byte ∷ rest) = false

-- no letter can be read: the text is at its end, or ends in a backslash
abbrev pub IsCut : List ℕ → Type 0
IsCut text = (text ≡ []) ⊎ (text ≡ 92 ∷ [])

-- a text begins with a letter, which a backslash may be before, and goes on with a rest
abbrev pub IsLetter : ℕ → List ℕ → List ℕ → Type 0
IsLetter letter text rest =
    ((letter ≢ 92) × (text ≡ letter ∷ rest)) ⊎ (text ≡ 92 ∷ letter ∷ rest)

-- after a letter its range goes on: a dash comes, and then not the end of the class
abbrev pub begins_range : List ℕ → Bool
begins_range [] = false
begins_range (dash ∷ []) = false
begins_range (dash ∷ byte ∷ rest) = (dash == 45) && not (byte == 93)

-- a member of a class is a letter, or two with a dash between them; a rest follows
abbrev pub IsMember : ℕ × ℕ → List ℕ → List ℕ → Type 0
IsMember range text rest = (after : List ℕ) × IsLetter range.0 text after
    × (((begins_range after ≡ false) × (range.1 ≡ range.0) × (rest ≡ after))
    ⊎ ((begins_range after ≡ true) × IsLetter range.1 (drop 1 after) rest))

-- no member can be read
abbrev pub IsCutMember : List ℕ → Type 0
IsCutMember text = IsCut text ⊎ ((letter : ℕ) × (after : List ℕ) × IsLetter letter text after
    × (begins_range after ≡ true) × IsCut (drop 1 after))

-- some members of a class, the last one first, and a rest: a bracket that comes first is a member
abbrev pub AreMembers : List (ℕ × ℕ) → List ℕ → List ℕ → Type 0
AreMembers [] text rest = text ≡ rest
AreMembers (range ∷ before) text rest = (mid : List ℕ) × AreMembers before text mid
    × ((before ≡ []) ⊎ (begins_with 93 mid ≡ false)) × IsMember range mid rest

-- a class that begins with an exclamation mark or a caret is about the bytes
-- that aren't its members
abbrev pub is_negated : List ℕ → Bool
is_negated text = begins_with 33 text || begins_with 94 text

abbrev pub members_of : List ℕ → List ℕ
members_of text = if is_negated text then drop 1 text else text

-- a set gets the bytes of some ranges, and if case is ignored their letters in the other case
abbrev pub AddsRanges : Bool → List (ℕ × ℕ) → List Bool → List Bool → Type 0
AddsRanges ignores_case ranges old new = (byte : ℕ) → holds new byte
    ≡ (holds old byte
    || is_either ignores_case (λ b. list_any (λ range. is_in_range range b) ranges) byte)

-- a byte that a class stands for, by its members: never a slash
abbrev pub is_in_class : Bool → Bool → List (ℕ × ℕ) → ℕ → Bool
is_in_class ignores_case negates ranges byte =
    let is_member =
    is_either ignores_case (λ b. list_any (λ range. is_in_range range b) ranges) byte in
    is_name_byte byte && (if negates then not is_member else is_member)

-- a class, after its opening bracket, up to the closing one: the set of the bytes
-- that it stands for
abbrev pub IsClass : Bool → List Bool → List ℕ → List ℕ → Type 0
IsClass ignores_case set text rest = (ranges : List (ℕ × ℕ)) × (0 < length ranges)
    × AreMembers ranges (members_of text) (93 ∷ rest)
    × IsSet set (is_in_class ignores_case (is_negated text) ranges)

-- a class, after its opening bracket, that isn't closed
abbrev pub IsUnclosed : List ℕ → Type 0
IsUnclosed text = (ranges : List (ℕ × ℕ)) × (rest : List ℕ)
    × AreMembers ranges (members_of text) rest × IsCutMember rest
