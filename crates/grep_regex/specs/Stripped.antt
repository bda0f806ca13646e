-- A pattern from whose classes bytes were taken.
use Rattle.std.specs.Prelude.{◌≡◌, ℕ, ◌<◌, ◌≤◌, ◌&&◌, not, true, List, [], ◌∷◌, length, All}
use Rattle.regex_class.specs.Ranges.{in_ranges}
use Rattle.regex_hir.specs.Re.{Re, Rest, attempt}
use Rattle.grep_regex.specs.Clear.{is_among, is_clear, if_clear}

-- the second pattern matches as the first does, but holds none of the bytes
pub record IsStripped (bytes : List ℕ) (before after : Re) : Type 0 where
  pub at : (hay : List ℕ) → All (λ x. x < 256) hay → (rest : Rest) (start i : ℕ) →
      start ≤ i → i ≤ length hay → is_clear bytes hay start i ≡ true →
      attempt hay after rest i ≡ attempt hay before (if_clear bytes hay start rest) i

-- patterns, one by one
abbrev pub AreStripped : List ℕ → List Re → List Re → Type 0
AreStripped bytes [] [] = Unit {0}
AreStripped bytes [] (b ∷ bs) = ⊥
AreStripped bytes (a ∷ these) [] = ⊥
AreStripped bytes (a ∷ these) (b ∷ bs) = IsStripped bytes a b × AreStripped bytes these bs

-- the bytes are ASCII
abbrev pub AreAscii : List ℕ → Type 0
AreAscii bytes = (x : ℕ) → is_among bytes x ≡ true → x < 128

-- the class has the bytes and no other member
abbrev pub IsClassOf : List ℕ → List (ℕ × ℕ) → Type 0
IsClassOf bytes ranges = (x : ℕ) → x ≤ 0x10_FFFF → in_ranges ranges x ≡ is_among bytes x

-- the class has the same members as before, without the bytes
abbrev pub IsThinned : List ℕ → List (ℕ × ℕ) → List (ℕ × ℕ) → Type 0
IsThinned bytes before after =
    (x : ℕ) → x ≤ 0x10_FFFF → in_ranges after x ≡ (in_ranges before x && not (is_among bytes x))
