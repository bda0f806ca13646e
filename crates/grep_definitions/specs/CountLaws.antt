-- Laws of how many matches are reported.
use Rattle.std.specs.Prelude.{◌≡◌, ℕ, Bool, List, length}
use Rattle.grep_matcher.specs.Meanings.{Meaning}
use Rattle.grep_definitions.specs.Plans.{search_plan, Settings}
use Rattle.grep_definitions.specs.Searches.{searched_bytes}
use Rattle.grep_definitions.specs.SearchLaws.{match_calls}

-- as many matches are reported whether lines are numbered or not
abbrev pub NumbersChangeNoCount : Type 0
NumbersChangeNoCount =
    (settings : Settings) (numbered : Bool) (meaning : Meaning) (bytes : List ℕ)
    → length (match_calls
    (search_plan (record settings { line_number = numbered }) meaning bytes).calls)
    ≡ length (match_calls (search_plan settings meaning bytes).calls)

-- and the same bytes are searched
abbrev pub NumbersChangeNoBytes : Type 0
NumbersChangeNoBytes =
    (settings : Settings) (numbered : Bool) (input : List ℕ)
    → searched_bytes (record settings { line_number = numbered }) input
    ≡ searched_bytes settings input
