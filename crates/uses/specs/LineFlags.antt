-- A flag for each line: whether it matches.
use Rattle.std.specs.Prelude.{Bool, ℕ, List, map}
use Rattle.grep_searcher.specs.AppendedItems.{item_if}
use Rattle.grep_searcher.specs.HitLines.{is_hit}
use Rattle.grep_searcher.specs.Lines.{byte_of, lines}
use Rattle.grep_searcher.specs.Meanings.{Meaning}
use Rattle.grep_searcher.specs.Plans.{Call, Settings}
use Rattle.grep_searcher.specs.SearchLaws.{is_match, is_report}

-- the flag of a report, whether it is a match, and none of another call
abbrev pub flag_of : Call → List Bool
flag_of = item_if is_report is_match

-- whether each line of some bytes hits
abbrev pub line_flags : Settings → Meaning → List ℕ → List Bool
line_flags settings meaning bytes =
    map (is_hit settings meaning) (lines (byte_of settings.line_terminator) bytes)
