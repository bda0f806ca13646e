-- When what a matcher finds in many lines at once can be trusted for a line terminator: a search
-- that asks it about many lines then finds the same lines as one that asks about one line at a
-- time.
use Rattle.std.specs.Prelude.{◌≡◌, ◌≢◌, ◌⊎◌, ℕ, ◌+◌, ◌-◌, ◌<◌, ◌≤◌, Bool, true, false, List, []}
use Rattle.std.specs.Prelude.{length, slice_index, slice_index_or, Option, Some, None, is_some}
use Rattle.grep_matcher.specs.declared.line_match_kind.LineMatchKind.{LineMatchKind}
use Rattle.grep_matcher.specs.declared.line_match_kind.LineMatchKind.TheVariants.{Confirmed}
use Rattle.grep_matcher.specs.declared.line_match_kind.LineMatchKind.TheVariants.{Candidate}
use Rattle.grep_matcher.specs.declared.line_terminator.LineTerminator.{LineTerminator}
use Rattle.grep_matcher.specs.Lines.{byte_of, lines, line_start, strip}
use Rattle.grep_matcher.specs.Meanings.{ExcludesTerminator, Meaning}

-- the position of what was found, and whether its line surely matches
abbrev pub position_of : LineMatchKind → ℕ
position_of (Confirmed position) = position
position_of (Candidate position) = position

abbrev pub is_confirmed : LineMatchKind → Bool
is_confirmed (Confirmed position) = true
is_confirmed (Candidate position) = false

module _ (terminator : LineTerminator) (meaning : Meaning) (bytes : List ℕ) where
  -- whether line i matches without its terminator
  abbrev pub matches_at : ℕ → Bool
  matches_at i = is_some
      (meaning.first (strip terminator (slice_index_or (lines (byte_of terminator) bytes) i [])))

  -- line i holds the positions from its start up to its end, and a last line without terminator its
  -- end too
  abbrev pub HoldsPosition : ℕ → ℕ → Type 0
  HoldsPosition i position =
      (line_start (byte_of terminator) bytes i ≤ position)
      × ((position < line_start (byte_of terminator) bytes (i + 1))
      ⊎ ((i + 1 ≡ length (lines (byte_of terminator) bytes)) × (position ≡ length bytes)
      × (slice_index bytes (length bytes - 1) ≢ byte_of terminator)))

  -- line i ends at the position or before it, and doesn't hold it
  abbrev pub EndsBefore : ℕ → ℕ → Type 0
  EndsBefore i position = (line_start (byte_of terminator) bytes (i + 1) ≤ position)
      × (HoldsPosition i position → ⊥)

  -- each line of the bytes has a property
  abbrev pub EachLine : (ℕ → Type 0) → Type 0
  EachLine P = (i : ℕ) → i < length (lines (byte_of terminator) bytes) → P i

  -- if nothing is found, no line matches; if a position is found, no line that ends before it
  -- matches, and if it is confirmed, the line that holds it does
  abbrev pub IsLawfulResult : Option LineMatchKind → Type 0
  IsLawfulResult None = EachLine (λ i. matches_at i ≡ false)
  IsLawfulResult (Some found) =
      EachLine (λ i. EndsBefore i (position_of found) → matches_at i ≡ false)
      × EachLine (λ i.
      HoldsPosition i (position_of found) → is_confirmed found ≡ true → matches_at i ≡ true)

-- what was found in some bytes can be trusted for each terminator that the matcher excludes and is
-- lawful for
abbrev pub IsTrusted : Meaning → (LineTerminator → Type 0) → List ℕ → Option LineMatchKind → Type 0
IsTrusted meaning is_lawful bytes found =
    (terminator : LineTerminator) → is_lawful terminator → ExcludesTerminator terminator meaning
    → IsLawfulResult terminator meaning bytes found

-- a position in the bytes, if one was found
abbrev pub IsInside : List ℕ → Option LineMatchKind → Type 0
IsInside bytes None = Unit {0}
IsInside bytes (Some found) = position_of found ≤ length bytes
