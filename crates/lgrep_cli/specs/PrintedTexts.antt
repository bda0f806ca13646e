-- The text that lgrep writes for the calls of a search.
use Rattle.std.specs.Prelude.{ℕ, Bool, List, [], ◌∷◌, ◌++◌, length, decimal}
use Rattle.std.specs.List.{list_any}
use Rattle.grep_searcher.specs.Plans.{Planned}
use Rattle.grep_searcher.specs.SearchLaws.{is_match, match_calls}
use Rattle.grep_printer.specs.BareTexts.{bare_texts}

-- the text of some calls, in order: each line of a match after its number and a colon, any other
-- line after its number and a dash, two dashes for a break, and at the end of each a line feed,
-- which is added if there is none
abbrev pub text : List Planned → List ℕ
text calls = bare_texts 10 calls

-- whether some call reports a match
abbrev pub has_match : List Planned → Bool
has_match calls = list_any (λ (planned : Planned). is_match planned.call) calls

-- how many calls report a match
abbrev pub match_count : List Planned → ℕ
match_count calls = length (match_calls calls)

-- that number, and a line feed
abbrev pub count_text : List Planned → List ℕ
count_text calls = decimal (match_count calls) ++ 10 ∷ []
