-- A pattern that is a literal.
use Rattle.std.specs.Prelude.{◌≡◌, ◌<◌, ◌≤◌, ℕ, List, length, All, drop}
use Rattle.regex_hir.specs.Re.{Re}
use Rattle.grep_matcher.specs.FindResults.{match_from}
use Rattle.grep_matcher.specs.Literals.{literal_match}
use Rattle.grep_regex.specs.Patterns.{leftmost_match_at}

-- the pattern finds in each haystack, from each position on, where the literal first occurs
pub record IsSpelled (re : Re) (literal : List ℕ) : Type 0 where
  pub at : (haystack : List ℕ) (start : ℕ) → All (λ x. x < 256) haystack → start ≤ length haystack →
      leftmost_match_at re haystack start
      ≡ match_from start (literal_match literal (drop start haystack))
