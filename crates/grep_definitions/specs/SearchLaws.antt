-- Laws of the planned calls.
use Rattle.std.specs.Prelude.{◌≡◌, ℕ, ◌+◌, ◌-◌, ◌<◌, ◌≤◌, Bool, true, false, not, ◌||◌, ◌&&◌}
use Rattle.std.specs.Prelude.{if◌then◌else◌, nat_lt, List, [], ◌∷◌, ◌++◌, length, slice_index}
use Rattle.std.specs.Prelude.{count_by, filter, map, Option, slice_get, Some, None, All}
use Rattle.std.specs.List.{AllPairs}
use Rattle.std.specs.Option.{option_map}
use Rattle.grep_decode.specs.declared.label.Label.TheVariants.{Utf8}
use Rattle.grep_decode.specs.Decoded.{mark_of, marked}
use Rattle.grep_matcher.specs.Lines.{byte_of}
use Rattle.grep_matcher.specs.FindResults.{plain}
use Rattle.grep_matcher.specs.Meanings.{Meaning}
use Rattle.grep_report.specs.SinkReports.{no_surroundings}
use Rattle.grep_report.specs.declared.sink_context.SinkContextKind.TheVariants.{After}
use Rattle.grep_definitions.specs.Plans.{is_across, search_plan, Call, matches, context, Planned}
use Rattle.grep_definitions.specs.Plans.{reported_bytes, reported_from, planned, count_below}
use Rattle.grep_definitions.specs.Plans.{first_below, joined_from, line_count, line, start, number}
use Rattle.grep_definitions.specs.Plans.{follows_selected, calls_at, is_selected, is_trailing}
use Rattle.grep_definitions.specs.Plans.{reports_end, selected_lines, Settings, line_plan}
use Rattle.grep_definitions.specs.Searches.{searched_bytes, encoding_of, looks_for_mark}
use Rattle.grep_definitions.specs.SliceSearches.{is_searched_unchanged}

-- without a label and a mark that is found, what is searched is the input
abbrev pub UnchangedIsInput : Type 0
UnchangedIsInput =
    (settings : Settings) (input : List ℕ) → is_searched_unchanged settings input ≡ true
    → searched_bytes settings input ≡ input

-- without a label, an input is searched as it is if no mark is looked for, or if it begins with
-- none
abbrev pub UnsniffedIsUnchanged : Type 0
UnsniffedIsUnchanged =
    (settings : Settings) (input : List ℕ) → settings.encoding ≡ None
    → settings.bom_sniffing ≡ false
    → is_searched_unchanged settings input ≡ true

abbrev pub UnmarkedIsUnchanged : Type 0
UnmarkedIsUnchanged =
    (settings : Settings) (input : List ℕ) → settings.encoding ≡ None → marked input ≡ None
    → is_searched_unchanged settings input ≡ true

-- such an input passes unchanged, and so does one that begins with a mark of UTF-8, if a mark is
-- looked for: what is searched is what comes after it
abbrev pub UnchangedPasses : Type 0
UnchangedPasses =
    (settings : Settings) (input : List ℕ) → is_searched_unchanged settings input ≡ true
    → encoding_of settings input ≡ None

abbrev pub MarkedPasses : Type 0
MarkedPasses =
    (settings : Settings) (input : List ℕ) → looks_for_mark settings ≡ true
    → (encoding_of settings (mark_of Utf8 ++ input) ≡ None)
    × (searched_bytes settings (mark_of Utf8 ++ input) ≡ input)

-- whether a call reports lines, and whether it reports a match
abbrev pub is_report : Call → Bool
is_report (matches number offset bytes around) = true
is_report (context kind number offset bytes) = true
is_report _ = false

abbrev pub is_match : Call → Bool
is_match (matches number offset line around) = true
is_match _ = false

-- some calls without the counts, and those of them that report lines, or a match, in order
abbrev pub calls_of : List Planned → List Call
calls_of calls = map (λ planned. planned.call) calls

abbrev pub report_calls : List Planned → List Call
report_calls calls = filter is_report (calls_of calls)

abbrev pub match_calls : List Planned → List Call
match_calls calls = filter is_match (calls_of calls)

-- where the bytes end that a call reports
abbrev pub reported_to : Call → ℕ
reported_to call = reported_from call + length (reported_bytes call)

-- each of some reports has a byte, and ends by the offset of each later one
abbrev pub AreReportsInOrder : List Call → Type 0
AreReportsInOrder reports =
    All (λ report. 0 < length (reported_bytes report)) reports
    × AllPairs (λ report later. reported_to report ≤ reported_from later) reports

-- the reports ascend, and no byte is reported twice
abbrev pub ReportsAscend : Type 0
ReportsAscend =
    (settings : Settings) (meaning : Meaning) (bytes : List ℕ)
    → AreReportsInOrder (report_calls (line_plan settings meaning bytes).calls)

-- a line that may be reported, isn't selected and is in reach of an earlier selected line is
-- reported as the line after it, even if it is also before a later one, and as a match if it is
-- trailing
abbrev pub AfterWins : Type 0
AfterWins =
    (settings : Settings) (meaning : Meaning) (bytes : List ℕ) (i j : ℕ)
    → i < reports_end settings meaning bytes
    → is_selected settings meaning bytes i ≡ false → is_selected settings meaning bytes j ≡ true
    → j < i → i - j ≤ settings.after_context
    → calls_at settings bytes (selected_lines settings meaning bytes) i
    ≡ planned
    (if is_trailing settings meaning bytes i
    then matches (number settings bytes i) (start settings bytes i) (line settings bytes i)
    no_surroundings
    else context After (number settings bytes i) (start settings bytes i) (line settings bytes i))
    (start settings bytes (i + 1)) ∷ []

-- without limit and stop, a search and its inversion select complementary lines
abbrev pub InversionComplements : Type 0
InversionComplements =
    (settings : Settings) (meaning : Meaning) (bytes : List ℕ) (i : ℕ)
    → settings.max_matches ≡ None → settings.stop_on_nonmatch ≡ false
    → i < line_count settings bytes
    → is_selected (record settings { invert_match = not settings.invert_match }) meaning bytes i
    ≡ not (is_selected settings meaning bytes i)

-- the calls over some first lines begin the calls over all lines, under settings as built
abbrev pub FirstLinesBegin : Type 0
FirstLinesBegin =
    (settings : Settings) (meaning : Meaning) (front back : List ℕ)
    → (0 < length front → slice_index front (length front - 1) ≡ byte_of settings.line_terminator)
    → (settings.passthru ≡ true → settings.before_context ≡ 0)
    → (later : List Planned)
    × ((line_plan settings meaning (front ++ back)).calls
    ≡ (line_plan settings meaning front).calls ++ later)

-- no more matches are reported than the limit has, and those in the context after the last of them;
-- none at limit 0
abbrev pub AtMostLimit : Type 0
AtMostLimit =
    (settings : Settings) (meaning : Meaning) (bytes : List ℕ) (limit : ℕ)
    → settings.max_matches ≡ Some limit
    → count_by is_match (calls_of (line_plan settings meaning bytes).calls)
    ≤ (if nat_lt 0 limit then limit + settings.after_context else 0)

-- if each line may be reported, the byte count is the length
abbrev pub WholeCount : Type 0
WholeCount =
    (settings : Settings) (meaning : Meaning) (bytes : List ℕ)
    → reports_end settings meaning bytes ≡ line_count settings bytes
    → (line_plan settings meaning bytes).finish.count ≡ length bytes

-- by line the plan, and which lines may be reported, depend on a matcher's matches alone, not on
-- what it says of terminators: a search by line with `Plain` of it has the same
abbrev pub MatchesDecide : Type 0
MatchesDecide =
    (settings : Settings) (meaning : Meaning) (bytes : List ℕ)
    → (line_plan settings (plain meaning.first) bytes ≡ line_plan settings meaning bytes)
    × (reports_end settings (plain meaning.first) bytes ≡ reports_end settings meaning bytes)

-- the number of line i
abbrev pub number_of : Settings → ℕ → Option ℕ
number_of settings i = if settings.line_number then Some (i + 1) else None

-- line i has the number i + 1, if lines are numbered
abbrev pub LinesAreNumbered : Type 0
LinesAreNumbered =
    (settings : Settings) (bytes : List ℕ) (i : ℕ) → i < line_count settings bytes
    → number settings bytes i ≡ number_of settings i

-- the call that reports line i as a match: with the number i + 1, if lines are numbered
abbrev pub match_of : Settings → List ℕ → ℕ → Call
match_of settings bytes i =
    matches (number_of settings i) (start settings bytes i) (line settings bytes i) no_surroundings

-- whether a line is a match: it is selected, or trailing in the context after a selected line
abbrev pub is_matched : Settings → Meaning → List ℕ → ℕ → Bool
is_matched settings meaning bytes i =
    is_selected settings meaning bytes i
    || (follows_selected settings bytes (selected_lines settings meaning bytes) i
    && is_trailing settings meaning bytes i)

-- the lines that may be reported and are matches, in order
abbrev pub matched_lines : Settings → Meaning → List ℕ → List ℕ
matched_lines settings meaning bytes =
    joined_from (λ i. if is_matched settings meaning bytes i then i ∷ [] else []) 0
    (reports_end settings meaning bytes)

-- by line, the matches that are reported are these lines, in order
abbrev pub MatchesAreMatchedLines : Type 0
MatchesAreMatchedLines =
    (settings : Settings) (meaning : Meaning) (bytes : List ℕ) → is_across settings meaning ≡ false
    → match_calls (search_plan settings meaning bytes).calls
    ≡ map (match_of settings bytes) (matched_lines settings meaning bytes)

-- as many as there are of them
abbrev pub MatchesAreCounted : Type 0
MatchesAreCounted =
    (settings : Settings) (meaning : Meaning) (bytes : List ℕ) → is_across settings meaning ≡ false
    → length (match_calls (search_plan settings meaning bytes).calls)
    ≡ count_below (is_matched settings meaning bytes) (reports_end settings meaning bytes)

-- the first of them is the first selected line
abbrev pub FirstMatchIsFirst : Type 0
FirstMatchIsFirst =
    (settings : Settings) (meaning : Meaning) (bytes : List ℕ) → is_across settings meaning ≡ false
    → slice_get (match_calls (search_plan settings meaning bytes).calls) 0
    ≡ option_map (match_of settings bytes)
    (first_below (is_selected settings meaning bytes) (line_count settings bytes))

-- there are at most as many as bytes
abbrev pub MatchesAreFew : Type 0
MatchesAreFew =
    (settings : Settings) (meaning : Meaning) (bytes : List ℕ) → is_across settings meaning ≡ false
    → length (match_calls (search_plan settings meaning bytes).calls) ≤ length bytes
