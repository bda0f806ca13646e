-- How many lines come before one that was kept.
use Rattle.std.specs.Prelude.{ℕ, ◌-◌, Option, option_and_then}
use Rattle.std.specs.Option.{option_map}
use Rattle.grep_searcher.specs.MatchHandlers.{KeptReport}

-- one less than its number, if it is there and has one
abbrev pub lines_before : Option KeptReport → Option ℕ
lines_before kept =
    option_and_then (λ line. option_map (λ number. number - 1) line.line_number) kept
