-- The successive matches in some bytes.
use Rattle.std.specs.Prelude.{ℕ, List, length, take, Option, Some, None}
use Rattle.grep_definitions.specs.Plans.{matches_from, Settings, matches_up_to, match_limit}
use Rattle.grep_matcher.specs.Meanings.{Meaning}

-- those that count in a search across lines
abbrev pub counted_matches : Settings → Meaning → List ℕ → List (ℕ × ℕ)
counted_matches settings meaning bytes = matches_up_to meaning bytes (match_limit settings)

module _ (meaning : Meaning) (bytes : List ℕ) where
  -- those from a position on, if so many more count
  abbrev pub matches_left : ℕ → Option ℕ → List (ℕ × ℕ)
  matches_left position None = matches_from meaning bytes position (length bytes)
  matches_left position (Some left) = take left (matches_from meaning bytes position (length bytes))
