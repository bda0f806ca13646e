-- The calls of one line as a walk from line to line makes them, by what it knows at that line. No
-- contract of grep_searcher cites these definitions.
use Rattle.grep_definitions.specs.Plans.{planned, Call, Planned, matches, context, breaks, Settings}
use Rattle.grep_definitions.specs.Plans.{joined_from, line, number, start}
use Rattle.std.specs.Prelude.{ℕ, ◌-◌, Bool, ◌&&◌, ◌==◌, if◌then◌else◌, nat_lt, nat_le, List, []}
use Rattle.std.specs.Prelude.{◌∷◌, Option, is_some}
use Rattle.grep_matcher.specs.Lines.{strip}
use Rattle.grep_matcher.specs.Meanings.{Meaning}
use Rattle.grep_definitions.specs.SearchLaws.{number_of}
use Rattle.grep_report.specs.SinkReports.{Surroundings}
use Rattle.grep_report.specs.declared.sink_context.SinkContextKind.{SinkContextKind}
use Rattle.grep_report.specs.declared.sink_context.SinkContextKind.TheVariants.{Before, After}

-- whether the bytes of a line match without their terminator
abbrev pub matches_line : Settings → Meaning → List ℕ → Bool
matches_line settings meaning line = is_some (meaning.first (strip settings.line_terminator line))

-- a call whose count is where the line ends
abbrev pub one_call : Call → ℕ → List Planned
one_call call end = planned call end ∷ []

-- a break, if one is due
abbrev pub break_calls : Bool → ℕ → List Planned
break_calls is_due end = if is_due then one_call breaks end else []

-- a call, and a break before it if one is due
abbrev pub broken_calls : Bool → Call → ℕ → List Planned
broken_calls is_due call end =
    if is_due then planned breaks end ∷ one_call call end else one_call call end

-- whether a break comes before line j near the selected line i, if the lines up to v were the last
-- ones reported: lines were left out between
abbrev pub breaks_near : Settings → ℕ → ℕ → ℕ → Bool
breaks_near settings v j i = nat_lt 0 v && nat_lt v j && (i - j) == settings.before_context

-- line j before the selected line i, which ends at `end`
abbrev pub before_calls : Settings → ℕ → ℕ → ℕ → Option ℕ → ℕ → ℕ → List ℕ → List Planned
before_calls settings v j i number offset end line =
    if nat_le (i - j) settings.before_context
    then broken_calls (breaks_near settings v j i) (context Before number offset line) end
    else []

-- line j of the bytes before the selected line i
abbrev pub listed_calls : Settings → List ℕ → ℕ → ℕ → ℕ → ℕ → List Planned
listed_calls settings bytes v i end j =
    before_calls settings v j i (number settings bytes j) (start settings bytes j) end
    (line settings bytes j)

-- the lines from line j on, n of them, before the selected line i
abbrev pub pending_calls : Settings → List ℕ → ℕ → ℕ → ℕ → ℕ → ℕ → List Planned
pending_calls settings bytes v i end j n = joined_from (listed_calls settings bytes v i end) j n

-- the selected line i, with what is around it
abbrev pub selected_calls : Settings → ℕ → ℕ → ℕ → ℕ → List ℕ → Surroundings → List Planned
selected_calls settings v i offset end line around =
    broken_calls (nat_lt 0 settings.after_context && breaks_near settings v i i)
    (matches (number_of settings i) offset line around) end

-- line i as a context line
abbrev pub context_calls : SinkContextKind → Option ℕ → ℕ → ℕ → List ℕ → List Planned
context_calls kind number offset end line = one_call (context kind number offset line) end

-- line i after a selected line: a match if it is trailing
abbrev pub after_calls : Settings → Bool → ℕ → ℕ → ℕ → ℕ → List ℕ → Surroundings → List Planned
after_calls settings trailing v i offset end line around =
    if trailing then selected_calls settings v i offset end line around
    else context_calls After (number_of settings i) offset end line
