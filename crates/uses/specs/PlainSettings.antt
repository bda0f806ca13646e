-- The settings of a search of an input as it is.
use Rattle.std.specs.Prelude.{ℕ, false, true, Some}
use Rattle.grep_searcher.specs.BuiltSettings.{default_settings}
use Rattle.grep_searcher.specs.Plans.{Settings, SearcherState}

-- no mark is looked for
abbrev pub as_it_is : Settings
as_it_is = record default_settings { bom_sniffing = false }

-- and a search ends at the last of this many lines that match
abbrev pub limited_to : ℕ → Settings
limited_to limit = record as_it_is { max_matches = Some limit }

-- or at most this many bytes are held, lines and all
abbrev pub held_to : ℕ → Settings
held_to limit = record as_it_is { heap_limit = Some limit }

-- or the lines that don't match are selected
abbrev pub inverted : Settings
inverted = record as_it_is { invert_match = true }

-- a searcher that was just built with some settings
abbrev pub built_with : Settings → SearcherState
built_with settings = record { settings = settings; has_buffers = true }
