-- Where a search breaks: between two reports of which the first ends before the second begins.
use Rattle.std.specs.Prelude.{◌≡◌, ℕ, ◌+◌, ◌<◌, ◌≤◌, nat_lt, if◌then◌else◌, List, [], ◌∷◌, count_by}
use Rattle.grep_matcher.specs.Meanings.{Meaning}
use Rattle.grep_definitions.specs.Plans.{begins, breaks, Call, is_break, reported_from, search_plan}
use Rattle.grep_definitions.specs.Plans.{Settings}
use Rattle.grep_definitions.specs.SearchLaws.{calls_of, report_calls, reported_to}

-- some reports after one that ends at an offset, with a break before each that begins after the end
-- of the one before it
abbrev pub broken_after : ℕ → List Call → List Call
broken_after end [] = []
broken_after end (report ∷ later) =
    if nat_lt end (reported_from report)
    then breaks ∷ report ∷ broken_after (reported_to report) later
    else report ∷ broken_after (reported_to report) later

-- some reports, with a break in each gap between two
abbrev pub with_breaks : List Call → List Call
with_breaks [] = []
with_breaks (report ∷ later) = report ∷ broken_after (reported_to report) later

-- how many gaps there are between some reports
abbrev pub gaps_after : ℕ → List Call → ℕ
gaps_after end [] = 0
gaps_after end (report ∷ later) =
    (if nat_lt end (reported_from report) then 1 else 0) + gaps_after (reported_to report) later

abbrev pub gaps : List Call → ℕ
gaps [] = 0
gaps (report ∷ later) = gaps_after (reported_to report) later

-- with a context, the calls of a plan are `begin` and then the reports, with these breaks
abbrev pub BreaksAreGaps : Type 0
BreaksAreGaps =
    (settings : Settings) (meaning : Meaning) (bytes : List ℕ)
    → 0 < settings.after_context + settings.before_context
    → calls_of (search_plan settings meaning bytes).calls
    ≡ begins ∷ with_breaks (report_calls (search_plan settings meaning bytes).calls)

-- so there are as many breaks as gaps
abbrev pub BreaksAreCounted : Type 0
BreaksAreCounted =
    (settings : Settings) (meaning : Meaning) (bytes : List ℕ)
    → 0 < settings.after_context + settings.before_context
    → count_by is_break (calls_of (search_plan settings meaning bytes).calls)
    ≡ gaps (report_calls (search_plan settings meaning bytes).calls)

-- and at most as many as the byte count of the whole plan
abbrev pub BreaksAreFew : Type 0
BreaksAreFew =
    (settings : Settings) (meaning : Meaning) (bytes : List ℕ)
    → count_by is_break (calls_of (search_plan settings meaning bytes).calls)
    ≤ (search_plan settings meaning bytes).finish.count
