-- Patterns whose matches end at the same places.
use Rattle.std.specs.Prelude.{◌≡◌, ℕ, List, [], ◌∷◌, Option, option_map}
use Rattle.regex_hir.specs.Re.{Re, Rest, Trace, attempt}
use Rattle.grep_regex.specs.Patterns.{leftmost_match_at}

-- where a match ends
abbrev pub end_of : Option Trace → Option ℕ
end_of = option_map (λ t. t.end)

-- in each haystack, from each position and whatever follows, the first way in which each matches
-- ends at the same place; which groups they write is left open
pub record SameEnds (a b : Re) : Type 0 where
  pub at : (hay : List ℕ) (rest others : Rest)
      → ((j : ℕ) → end_of (rest j) ≡ end_of (others j)) → (i : ℕ) →
      end_of (attempt hay a rest i) ≡ end_of (attempt hay b others i)

-- the leftmost matches of each text, from each position on, have the same spans
pub record HasSameSpans (a b : Re) : Type 0 where
  pub at : (text : List ℕ) (start : ℕ) →
      leftmost_match_at a text start ≡ leftmost_match_at b text start

-- patterns, one by one
abbrev pub AreSameEnds : List Re → List Re → Type 0
AreSameEnds [] [] = Unit {0}
AreSameEnds [] (b ∷ bs) = ⊥
AreSameEnds (a ∷ these) [] = ⊥
AreSameEnds (a ∷ these) (b ∷ bs) = SameEnds a b × AreSameEnds these bs
