-- What was searched, found and written, and the sum of such counts.
use Rattle.std.specs.Prelude.{ℕ, ◌+◌, ◌-◌, ◌^◌, min}
use Rattle.std.specs.Duration.{as_nanos}
use Rattle.std.specs.declared.time.Duration.{Duration}
use Rattle.grep_printer.specs.declared.stats.Stats.{Stats}

-- a number, or the greatest one of 64 bits
abbrev pub capped : ℕ → ℕ
capped n = min n (2 ^ 64 - 1)

-- a sum, or the greatest number of 64 bits
abbrev pub capped_sum : ℕ → ℕ → ℕ
capped_sum a b = capped (a + b)

-- the nanoseconds of a duration, or the greatest number of 64 bits
abbrev pub nanos_of : Duration → ℕ
nanos_of duration = capped (as_nanos duration)

-- nothing was searched yet
abbrev pub no_stats : Stats
no_stats = record {
  elapsed = 0;
  searches = 0;
  searches_with_match = 0;
  bytes_searched = 0;
  bytes_printed = 0;
  matched_lines = 0;
  matches = 0;
}

-- two records of counts, added count by count
abbrev pub stats_sum : Stats → Stats → Stats
stats_sum a b = record {
  elapsed = capped_sum a.elapsed b.elapsed;
  searches = capped_sum a.searches b.searches;
  searches_with_match = capped_sum a.searches_with_match b.searches_with_match;
  bytes_searched = capped_sum a.bytes_searched b.bytes_searched;
  bytes_printed = capped_sum a.bytes_printed b.bytes_printed;
  matched_lines = capped_sum a.matched_lines b.matched_lines;
  matches = capped_sum a.matches b.matches;
}
