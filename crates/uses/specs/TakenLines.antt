-- What a sink keeps that takes lines and the byte count.
use Rattle.std.specs.Prelude.{ℕ, List, ◌++◌}
use Rattle.grep_searcher.specs.AppendedItems.{item_at}
use Rattle.grep_searcher.specs.MatchHandlers.{KeptReport, kept_of}
use Rattle.grep_searcher.specs.Plans.{Call, finishes}

-- the lines so far, and the byte count of the end
pub record TakenLines : Type 0 where
  pub lines : List KeptReport
  pub byte_count : ℕ

-- a match adds its lines, and the end sets the byte count
abbrev pub count_at_end : ℕ → Call → ℕ
count_at_end old (finishes count binary) = count
count_at_end old _ = old

abbrev pub taken_after : TakenLines → Call → TakenLines
taken_after old call = record {
  lines = old.lines ++ item_at kept_of call;
  byte_count = count_at_end old.byte_count call;
}
