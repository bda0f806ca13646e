-- The settings of a search for the first matches and the lines around them.
use Rattle.std.specs.Prelude.{ℕ, Some}
use Rattle.grep_searcher.specs.BuiltSettings.{default_settings}
use Rattle.grep_searcher.specs.Plans.{Settings}

-- the first n matches, with the line before and the line after each
abbrev pub first_around : ℕ → Settings
first_around n =
    record default_settings { before_context = 1; after_context = 1; max_matches = Some n }
