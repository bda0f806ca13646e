-- What a search by line reports under `passthru`: all lines.
use Rattle.std.specs.Prelude.{◌≡◌, ℕ, true, false, List, map}
use Rattle.grep_matcher.specs.Lines.{byte_of, lines}
use Rattle.grep_matcher.specs.Meanings.{Meaning}
use Rattle.grep_definitions.specs.Plans.{is_across, reported_bytes, search_plan, Settings}
use Rattle.grep_definitions.specs.SearchLaws.{is_match, report_calls}
use Rattle.grep_searcher.specs.HitLines.{is_hit, IsUnlimited}

-- by line, under `passthru`, without limit and stop, the reports are all lines, in order
abbrev pub LinesArePassed : Type 0
LinesArePassed =
    (settings : Settings) (meaning : Meaning) (bytes : List ℕ) → is_across settings meaning ≡ false
    → settings.passthru ≡ true → IsUnlimited settings
    → map reported_bytes (report_calls (search_plan settings meaning bytes).calls)
    ≡ lines (byte_of settings.line_terminator) bytes

-- and a report is a match exactly if its line hits
abbrev pub PassedLinesHit : Type 0
PassedLinesHit =
    (settings : Settings) (meaning : Meaning) (bytes : List ℕ) → is_across settings meaning ≡ false
    → settings.passthru ≡ true → IsUnlimited settings
    → map is_match (report_calls (search_plan settings meaning bytes).calls)
    ≡ map (is_hit settings meaning) (lines (byte_of settings.line_terminator) bytes)
