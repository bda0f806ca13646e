-- What the units of UTF-16 spell.
use Rattle.std.specs.Prelude.{◌≡◌, ◌||◌, ℕ, Bool, true, false, List, [], ◌∷◌}
use Rattle.std.specs.Char.Utf16.{is_low_surrogate, is_high_surrogate, surrogate_pair_char}

-- U+FFFD
abbrev pub replacement : ℕ
replacement = 0xFFFD

-- half of a pair
abbrev pub is_surrogate : ℕ → Bool
is_surrogate unit = is_high_surrogate unit || is_low_surrogate unit

-- These units, with an odd byte after them or none, spell these scalar values.
pub data Spells (odd : Bool) : List ℕ → List ℕ → Type 0 where
  -- nothing is left
  at_end : odd ≡ false → Spells odd [] []
  -- an odd byte, and no leading surrogate before it
  at_odd : odd ≡ true → Spells odd [] (replacement ∷ [])
  -- no surrogate
  plain : (unit : ℕ) (units chars : List ℕ) → is_surrogate unit ≡ false → Spells odd units chars
      → Spells odd (unit ∷ units) (unit ∷ chars)
  -- a leading surrogate with a trailing one after it
  pair : (high low : ℕ) (units chars : List ℕ) → is_high_surrogate high ≡ true
      → is_low_surrogate low ≡ true → Spells odd units chars
      → Spells odd (high ∷ low ∷ units) (surrogate_pair_char high low ∷ chars)
  -- a trailing surrogate with no leading one before it
  low : (unit : ℕ) (units chars : List ℕ) → is_low_surrogate unit ≡ true → Spells odd units chars
      → Spells odd (unit ∷ units) (replacement ∷ chars)
  -- a leading surrogate with another unit after it, which is read on its own
  high : (unit next : ℕ) (units chars : List ℕ) → is_high_surrogate unit ≡ true
      → is_low_surrogate next ≡ false → Spells odd (next ∷ units) chars
      → Spells odd (unit ∷ next ∷ units) (replacement ∷ chars)
  -- a leading surrogate as the last unit, together with the odd byte if there is one
  waiting : (unit : ℕ) → is_high_surrogate unit ≡ true → Spells odd (unit ∷ []) (replacement ∷ [])
