-- What a matcher means, and what is known of it.
use Rattle.std.specs.Prelude.{◌≡◌, ◌⊎◌, ℕ, Bool, true, List, Option, Some}
use Rattle.grep_matcher.specs.declared.line_terminator.LineTerminator.{LineTerminator}
use Rattle.grep_matcher.specs.Lines.{byte_of}

-- for each haystack its first match, by its start and its end, if it has one; the line terminator
-- that the matcher declares, if any; and bytes that no match contains
pub record Meaning : Type 0 where
  pub first : List ℕ → Option (ℕ × ℕ)
  pub terminator : Option LineTerminator
  pub absent : ℕ → Bool

-- what a matcher means, which errors a haystack may get, and for which terminators what the matcher
-- finds in many lines can be trusted
pub record MatcherFacts (F : Type 0) : Type 1 where
  pub meaning : Meaning
  pub fails : List ℕ → F → Type 0
  pub is_lawful : LineTerminator → Type 0

-- no match contains the terminator, as the matcher says: it declares it, or its byte is absent
abbrev pub ExcludesTerminator : LineTerminator → Meaning → Type 0
ExcludesTerminator terminator meaning = (meaning.terminator ≡ Some terminator)
    ⊎ (meaning.absent (byte_of terminator) ≡ true)

-- no haystack gets an error
abbrev pub IsInfallible : {F : Type 0} → (List ℕ → F → Type 0) → Type 0
IsInfallible {F} fails = (haystack : List ℕ) (error : F) → fails haystack error → ⊥
