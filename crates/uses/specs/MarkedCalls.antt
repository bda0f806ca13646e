-- A report: the settings of its search, and what it has of the calls.
use Rattle.std.specs.Prelude.{ℕ, List, [], ◌∷◌, codes}
use Rattle.std.specs.List.{flat_map}
use Rattle.grep_searcher.specs.AppendedParts.{run_calls}
use Rattle.grep_searcher.specs.BuiltSettings.{default_settings}
use Rattle.grep_searcher.specs.Plans.{Call, matches, context, breaks, Plan, Settings}

-- the line before each match is reported too
abbrev pub one_before : Settings
one_before = record default_settings { before_context = 1 }

-- a match after `>`, a line near it after a space, a break as two dashes
abbrev pub marked_text : Call → List ℕ
marked_text (matches number offset line around) = 62 ∷ line
marked_text (context kind number offset line) = 32 ∷ line
marked_text breaks = codes "--\n"
marked_text _ = []

-- the whole report
abbrev pub report_of : Plan → List ℕ
report_of plan = flat_map marked_text (run_calls plan)
