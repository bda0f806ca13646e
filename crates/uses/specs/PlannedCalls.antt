-- The calls that are planned for an input.
use Rattle.std.specs.Prelude.{ℕ, List}
use Rattle.grep_searcher.specs.Meanings.{Meaning}
use Rattle.grep_searcher.specs.Plans.{Planned, Settings, search_plan}
use Rattle.grep_searcher.specs.Searches.{searched_bytes}

-- those of its decoded bytes
abbrev pub planned_calls : Settings → Meaning → List ℕ → List Planned
planned_calls settings meaning input =
    (search_plan settings meaning (searched_bytes settings input)).calls
