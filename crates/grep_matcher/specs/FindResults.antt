-- What the calls of a matcher may return, by what it means.
use Rattle.std.specs.Prelude.{◌≡◌, ℕ, ◌+◌, ◌<◌, ◌≤◌, Bool, false, List, length, Option, None, Some}
use Rattle.std.specs.Prelude.{IfSome, is_some, slice_index}
use Rattle.std.specs.Option.{option_map}
use Rattle.grep_matcher.specs.ByteSets.{holds}
use Rattle.grep_matcher.specs.Meanings.{Meaning}

-- a match lies within its haystack
abbrev pub IsWithin : List ℕ → Option (ℕ × ℕ) → Type 0
IsWithin haystack found = IfSome found (λ m. (m.0 ≤ m.1) × (m.1 ≤ length haystack))

-- a match lies within its haystack, and starts at a position or after it
abbrev pub IsFrom : ℕ → List ℕ → Option (ℕ × ℕ) → Type 0
IsFrom start haystack found = IfSome found (λ m. start ≤ m.0) × IsWithin haystack found

-- a match in the bytes from a position on, as positions in the whole haystack
abbrev pub match_from : ℕ → Option (ℕ × ℕ) → Option (ℕ × ℕ)
match_from start found = option_map (λ m. (start + m.0, start + m.1)) found

-- the match contains no byte of the set
abbrev pub Avoids : (ℕ → Bool) → List ℕ → Option (ℕ × ℕ) → Type 0
Avoids absent haystack found = IfSome found (λ m.
    (i : ℕ) → m.0 ≤ i → i < m.1 → absent (slice_index haystack i) ≡ false)

-- a position in the haystack if it has a match, and none otherwise
abbrev pub IsPosition : List ℕ → Option (ℕ × ℕ) → Option ℕ → Type 0
IsPosition haystack found position = (is_some position ≡ is_some found)
    × IfSome position (λ p. p ≤ length haystack)

-- whether a number is in the set, if there is a set
abbrev pub holds_if_some : Option (List Bool) → ℕ → Bool
holds_if_some None byte = false
holds_if_some (Some set) byte = holds set byte

-- these matches, with no line terminator and no bytes that no match contains
abbrev pub plain : (List ℕ → Option (ℕ × ℕ)) → Meaning
plain first = record { first = first; terminator = None; absent = λ byte. false }
