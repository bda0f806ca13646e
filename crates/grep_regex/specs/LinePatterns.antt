-- Patterns for the lines of a search.
use Rattle.std.specs.Prelude.{ℕ, true, Some, List, [], ◌∷◌}
use Rattle.std.specs.declared.io.ErrorKind.{ErrorKind}
use Rattle.std.specs.declared.io.ErrorKind.TheVariants.{InvalidInput, OutOfMemory}
use Rattle.grep_matcher.specs.Meanings.{Meaning}
use Rattle.grep_matcher.specs.declared.line_terminator.LineTerminator.TheVariants.{Byte}
use Rattle.grep_regex.specs.Patterns.{default_options, meaning_of}
use Rattle.grep_regex.specs.declared.error.Error.{Error}
use Rattle.grep_regex.specs.declared.error.Error.TheVariants.{Memory}
use Rattle.grep_regex.specs.declared.options.Options.{Options}

-- `^` and `$` match at the ends of a line, and lines end at line feeds
abbrev pub line_options : Options
line_options = record default_options { multi_line = true; line_terminator = Some (Byte 10) }

-- what a matcher of such a pattern means
abbrev pub line_meaning : List ℕ → Meaning
line_meaning pattern = meaning_of line_options (pattern ∷ [])

-- the kind of an `io::Error` of patterns that can't be compiled
abbrev pub error_kind_of : Error → ErrorKind
error_kind_of Memory = OutOfMemory
error_kind_of _ = InvalidInput
