-- The settings that options ask for.
use Rattle.std.specs.Prelude.{Bool, not}
use Rattle.grep_searcher.specs.BuiltSettings.{built, default_settings}
use Rattle.grep_searcher.specs.Plans.{Settings}
use Rattle.lgrep_cli.specs.declared.options.Options.{Options}

-- what no option sets is at its default; both contexts are 0 under passthru
abbrev pub settings_of_options : Options → Settings
settings_of_options options = built (record default_settings {
  invert_match = options.invert;
  multi_line = options.multi_line;
  after_context = options.after;
  before_context = options.before;
  passthru = options.passthru;
  max_matches = options.max;
})

-- those with which the search is made: it numbers no lines if the matches are only counted, since
-- no number is written then
abbrev pub numbered_unless : Bool → Settings → Settings
numbered_unless is_count settings = record settings { line_number = not is_count }

abbrev pub searched_settings : Options → Settings
searched_settings options = numbered_unless options.count (settings_of_options options)
