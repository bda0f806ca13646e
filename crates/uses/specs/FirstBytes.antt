-- With which byte a match begins.
use Rattle.std.specs.Prelude.{ℕ, Option, slice_get}
use Rattle.grep_searcher.specs.Plans.{Call, reported_bytes}

-- the first byte of its lines
abbrev pub leading_byte : Call → Option ℕ
leading_byte found = slice_get (reported_bytes found) 0
