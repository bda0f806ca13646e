-- How long a line is.
use Rattle.std.specs.Prelude.{ℕ, length}
use Rattle.grep_searcher.specs.MatchHandlers.{KeptReport}

-- in bytes, with its terminator
abbrev pub byte_length : KeptReport → ℕ
byte_length line = length line.bytes
