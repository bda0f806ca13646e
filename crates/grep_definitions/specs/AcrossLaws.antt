-- Laws of the planned calls across lines, and of the mode.
use Rattle.std.specs.Prelude.{◌≡◌, ℕ, ◌+◌, ◌-◌, ◌<◌, ◌≤◌, Bool, true, false, not, ◌&&◌, ◌⊎◌}
use Rattle.std.specs.Prelude.{if◌then◌else◌, nat_lt, List, [], ◌∷◌}
use Rattle.std.specs.Prelude.{length, count_by, map, Some, None}
use Rattle.std.specs.List.{flat_map}
use Rattle.std.specs.List.Sorted.{IsStrictlyIncreasing}
use Rattle.grep_matcher.specs.Lawful.{HoldsPosition}
use Rattle.grep_matcher.specs.Meanings.{ExcludesTerminator, Meaning}
use Rattle.grep_report.specs.SinkReports.{no_surroundings}
use Rattle.grep_report.specs.declared.sink_context.SinkContextKind.TheVariants.{After}
use Rattle.grep_definitions.specs.Plans.{is_across, search_plan, Call, matches, context, planned}
use Rattle.grep_definitions.specs.Plans.{joined_from, line_count, line, number, start, calls_at}
use Rattle.grep_definitions.specs.Plans.{is_selected, is_trailing, reports_end, is_touched_selected}
use Rattle.grep_definitions.specs.Plans.{touched_lines, touches, matches_from, all_matches}
use Rattle.grep_definitions.specs.Plans.{Planned, Settings, across_plan, line_plan}
use Rattle.grep_definitions.specs.SearchLaws.{AreReportsInOrder, calls_of, is_match, report_calls}

-- without `multi_line`, or with a matcher that excludes the terminator, a search is by line
abbrev pub SearchesByLine : Type 0
SearchesByLine =
    (settings : Settings) (meaning : Meaning)
    → (settings.multi_line ≡ false) ⊎ ExcludesTerminator settings.line_terminator meaning
    → (is_across settings meaning ≡ false)
    × ((bytes : List ℕ) → search_plan settings meaning bytes ≡ line_plan settings meaning bytes)

-- any other search is across lines
abbrev pub SearchesAcrossLines : Type 0
SearchesAcrossLines =
    (settings : Settings) (meaning : Meaning)
    → settings.multi_line ≡ true → (ExcludesTerminator settings.line_terminator meaning → ⊥)
    → (is_across settings meaning ≡ true)
    × ((bytes : List ℕ) → search_plan settings meaning bytes ≡ across_plan settings meaning bytes)

-- no match is left out: asking more often than there are bytes finds no more of them
abbrev pub MatchesAreAll : Type 0
MatchesAreAll =
    (meaning : Meaning) (bytes : List ℕ) (n : ℕ) → length bytes ≤ n
    → matches_from meaning bytes 0 n ≡ all_matches meaning bytes

-- a match that isn't empty touches the lines that it has a byte of, and no other line
abbrev pub MatchTouchesItsLines : Type 0
MatchTouchesItsLines =
    (settings : Settings) (meaning : Meaning) (bytes : List ℕ) (m : ℕ × ℕ) (i : ℕ)
    → m.0 < m.1 → m.1 ≤ length bytes → i < line_count settings bytes
    → touches settings meaning bytes i m
    ≡ (nat_lt m.0 (start settings bytes (i + 1)) && nat_lt (start settings bytes i) m.1)

-- an empty match touches the line that holds its position, and no other line: at the end of the
-- bytes the last line, unless that has its terminator
abbrev pub EmptyMatchTouchesItsLine : Type 0
EmptyMatchTouchesItsLine =
    (settings : Settings) (meaning : Meaning) (bytes : List ℕ) (position i : ℕ)
    → position ≤ length bytes → i < line_count settings bytes
    → (touches settings meaning bytes i (position, position) ≡ true
    → HoldsPosition settings.line_terminator meaning bytes i position)
    × (HoldsPosition settings.line_terminator meaning bytes i position
    → touches settings meaning bytes i (position, position) ≡ true)

-- without limit, a search across lines and its inversion select complementary lines
abbrev pub InversionComplements : Type 0
InversionComplements =
    (settings : Settings) (meaning : Meaning) (bytes : List ℕ) (i : ℕ)
    → settings.max_matches ≡ None → i < line_count settings bytes
    → is_touched_selected (record settings { invert_match = not settings.invert_match }) meaning
    bytes i
    ≡ not (is_touched_selected settings meaning bytes i)

-- the reports ascend, and no byte is reported twice
abbrev pub ReportsAscend : Type 0
ReportsAscend =
    (settings : Settings) (meaning : Meaning) (bytes : List ℕ)
    → AreReportsInOrder (report_calls (across_plan settings meaning bytes).calls)

-- a line that isn't selected and is in reach of an earlier selected line is reported as the line
-- after it, even if it is also before a later one
abbrev pub AfterWins : Type 0
AfterWins =
    (settings : Settings) (meaning : Meaning) (bytes : List ℕ) (i j : ℕ)
    → i < line_count settings bytes
    → is_touched_selected settings meaning bytes i ≡ false
    → is_touched_selected settings meaning bytes j ≡ true
    → j < i → i - j ≤ settings.after_context
    → calls_at settings bytes (touched_lines settings meaning bytes) i
    ≡ planned
    (context After (number settings bytes i) (start settings bytes i) (line settings bytes i))
    (start settings bytes (i + 1)) ∷ []

-- no more matches are reported than the limit has, also if the lines of many matches are one report
abbrev pub AtMostLimit : Type 0
AtMostLimit =
    (settings : Settings) (meaning : Meaning) (bytes : List ℕ) (limit : ℕ)
    → settings.max_matches ≡ Some limit
    → count_by is_match (calls_of (across_plan settings meaning bytes).calls) ≤ limit

-- the bytes of a match report, and where it begins and ends
abbrev pub report_bytes : Call → List ℕ
report_bytes (matches number offset bytes around) = bytes
report_bytes _ = []

abbrev pub report_edges : Call → List ℕ
report_edges (matches number offset bytes around) = offset ∷ (offset + length bytes) ∷ []
report_edges _ = []

-- the match reports, joined, are the selected lines, joined: each selected line is in one report,
-- and no other line is
abbrev pub SelectedAreReported : Type 0
SelectedAreReported =
    (settings : Settings) (meaning : Meaning) (bytes : List ℕ)
    → flat_map report_bytes (calls_of (across_plan settings meaning bytes).calls)
    ≡ joined_from
    (λ i. if is_touched_selected settings meaning bytes i then line settings bytes i else [])
    0 (line_count settings bytes)

-- without inversion each match report ends before the next one begins: a line that isn't selected
-- is between them
abbrev pub ReportsAreApart : Type 0
ReportsAreApart =
    (settings : Settings) (meaning : Meaning) (bytes : List ℕ) → settings.invert_match ≡ false
    → IsStrictlyIncreasing
    (flat_map report_edges (calls_of (across_plan settings meaning bytes).calls))

-- a call with nothing around its match, if it has one
abbrev pub without_surroundings : Call → Call
without_surroundings (matches number offset bytes around) =
    matches number offset bytes no_surroundings
without_surroundings call = call

-- lines are reported as by line: if a search under inversion, in which a report is one line,
-- selects the lines that some search by line does, and in that too each line may be reported and
-- none is trailing, then the calls are the same, but for what is around a match
abbrev pub ReportsAreAsByLine : Type 0
ReportsAreAsByLine =
    (settings : Settings) (meaning other : Meaning) (bytes : List ℕ) → settings.invert_match ≡ true
    → ((i : ℕ)
    → is_touched_selected settings meaning bytes i ≡ is_selected settings other bytes i)
    → reports_end settings other bytes ≡ line_count settings bytes
    → ((i : ℕ) → is_trailing settings other bytes i ≡ false)
    → map (λ (planned : Planned). record planned { call = without_surroundings planned.call })
    (across_plan settings meaning bytes).calls
    ≡ (line_plan settings other bytes).calls

-- each byte counts
abbrev pub WholeCount : Type 0
WholeCount =
    (settings : Settings) (meaning : Meaning) (bytes : List ℕ)
    → (across_plan settings meaning bytes).finish.count ≡ length bytes

-- whether a search would stop at a line that doesn't match makes no difference
abbrev pub StopIsIgnored : Type 0
StopIsIgnored =
    (settings : Settings) (meaning : Meaning) (bytes : List ℕ) (stop : Bool)
    → across_plan (record settings { stop_on_nonmatch = stop }) meaning bytes
    ≡ across_plan settings meaning bytes
