-- The first matches of a haystack from its positions on.
use Rattle.std.specs.Prelude.{◌≡◌, ◌≤◌, ℕ, List, length, Option, IfSome}
use Rattle.grep_matcher.specs.FindResults.{IsFrom}

-- what is given for each position is the first match from there on, and the other one is the first
-- of all
pub record AreFirstMatches (haystack : List ℕ) (first : Option (ℕ × ℕ))
    (first_at : ℕ → Option (ℕ × ℕ)) : Type 0 where
  -- the first from the start on is the first of all
  pub whole : first_at 0 ≡ first
  -- a first match lies within the haystack, and starts at the position or after it
  pub within : (start : ℕ) → start ≤ length haystack → IsFrom start haystack (first_at start)
  -- it is also the first from each later position up to its start; where there is none, there is
  -- none from any later position on
  pub same : (start later : ℕ) → start ≤ later → later ≤ length haystack
      → IfSome (first_at start) (λ found. later ≤ found.0) → first_at later ≡ first_at start
