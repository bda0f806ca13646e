-- Bytes of units, apart, and the bytes that spell the units in UTF-8.
use Rattle.std.specs.Prelude.{◌≡◌, ◌⊎◌, ℕ, ◌+◌, ◌*◌, ◌<◌, ◌≤◌, List, [], ◌∷◌, take, drop}
use Rattle.std.specs.Prelude.{slice_index_or, encode_utf8, encode_utf8_all}

-- the bytes at even indices
abbrev pub evens : List ℕ → List ℕ
evens [] = []
evens (first ∷ []) = first ∷ []
evens (first ∷ second ∷ bytes) = first ∷ evens bytes

-- the bytes at odd indices
abbrev pub odds : List ℕ → List ℕ
odds [] = []
odds (first ∷ []) = []
odds (first ∷ second ∷ bytes) = second ∷ odds bytes

-- all bytes are below a bound
abbrev pub AreBelow : ℕ → List ℕ → Type 0
AreBelow bound [] = Unit {0}
AreBelow bound (byte ∷ bytes) = (byte < bound) × AreBelow bound bytes

-- these bytes, as many as the size says, are the unit in UTF-8
pub record IsSpelled (low high first second third size : ℕ) : Type 0 where
  pub some : 0 < size
  pub few : size ≤ 3
  pub spells : take size (first ∷ second ∷ third ∷ []) ≡ encode_utf8 (high * 256 + low)

-- each of these units is spelled by the bytes at its index
abbrev pub AreSpelled : List ℕ → List ℕ → List ℕ → List ℕ → List ℕ → List ℕ → Type 0
AreSpelled lows highs firsts seconds thirds sizes = (i : ℕ) → i < 16
    → IsSpelled (slice_index_or lows i 0) (slice_index_or highs i 0) (slice_index_or firsts i 0)
    (slice_index_or seconds i 0) (slice_index_or thirds i 0) (slice_index_or sizes i 0)

-- the three bytes of the unit at each index begin at four times the index
abbrev pub AreInFours : List ℕ → List ℕ → List ℕ → List ℕ → Type 0
AreInFours firsts seconds thirds quads = (i : ℕ) → i < 16 → take 3 (drop (4 * i) quads)
    ≡ slice_index_or firsts i 0 ∷ slice_index_or seconds i 0 ∷ slice_index_or thirds i 0 ∷ []

-- no unit with one of these higher bytes is a surrogate
abbrev pub NoneIsSurrogate : List ℕ → Type 0
NoneIsSurrogate [] = Unit {0}
NoneIsSurrogate (high ∷ highs) = ((high < 0xD8) ⊎ (0xE0 ≤ high)) × NoneIsSurrogate highs

-- the units of these lower and higher bytes
abbrev pub joined : List ℕ → List ℕ → List ℕ
joined [] highs = []
joined (low ∷ lows) [] = []
joined (low ∷ lows) (high ∷ highs) = (high * 256 + low) ∷ joined lows highs

-- so many bytes of units were taken, all at the front and none of a surrogate, and their text was
-- written
pub record IsPut (lows highs : List ℕ) (taken : ℕ) (written : List ℕ) : Type 0 where
  pub count : ℕ
  pub few : count ≤ 16
  pub counted : taken ≡ 2 * count
  pub plain : NoneIsSurrogate (take count highs)
  pub text : written ≡ encode_utf8_all (take count (joined lows highs))
