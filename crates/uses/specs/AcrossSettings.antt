-- The settings of a search for blocks of lines.
use Rattle.std.specs.Prelude.{true}
use Rattle.grep_searcher.specs.BuiltSettings.{default_settings}
use Rattle.grep_searcher.specs.Plans.{Settings}

-- a match may extend over several lines
abbrev pub across_lines : Settings
across_lines = record default_settings { multi_line = true }
