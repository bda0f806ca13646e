-- What is known of matches without an engine.
use Rattle.std.specs.Prelude.{◌≡◌, ℕ, ◌≤◌, List, length}
use Rattle.grep_matcher.specs.FindResults.{IsFrom}
use Rattle.grep_regex.specs.Views.{regex_text_at, IsAnswer}
use Rattle.grep_regex.specs.declared.asked.Asked.{Asked}
use Rattle.grep_regex.specs.declared.regex.Regex.{Regex}
use Rattle.grep_regex.specs.declared.known.Known.{Known}
use Rattle.grep_regex.specs.declared.known.Known.TheVariants.{Answer, From}

-- of the first match of a text from a position on: the answer,
-- or a position up to which no match starts
abbrev pub IsKnown : Regex → Asked → List ℕ → ℕ → Known → Type 0
IsKnown r asked text start (Answer found) =
    IsAnswer asked (regex_text_at r text start) found × IsFrom start text found
IsKnown r asked text start (From later) = (start ≤ later) × (later ≤ length text)
    × (regex_text_at r text later ≡ regex_text_at r text start)
