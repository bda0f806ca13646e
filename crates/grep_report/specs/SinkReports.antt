-- What contracts see of the values that a sink is given.
use Rattle.std.specs.Prelude.{ℕ, Bool, if◌then◌else◌, List, [], Option, drop, slice_range, take}
use Rattle.grep_report.specs.declared.sink_context.SinkContextKind.{SinkContextKind}

-- a match: the byte at which its lines are split, the number of its first line, its offset in the
-- whole decoded input, the buffer with the positions at which it starts and ends there, and whether
-- the buffer is all that is searched
pub record MatchReport : Type 0 where
  pub terminator : ℕ
  pub line_number : Option ℕ
  pub offset : ℕ
  pub buffer : List ℕ
  pub start : ℕ
  pub end : ℕ
  pub whole : Bool

-- the bytes of a match
abbrev pub match_bytes : MatchReport → List ℕ
match_bytes m = slice_range m.buffer m.start m.end

-- the bytes around a match: those before it and those after it
pub record Surroundings : Type 0 where
  pub before : List ℕ
  pub after : List ℕ

abbrev pub no_surroundings : Surroundings
no_surroundings = record { before = []; after = [] }

-- those around a range of some bytes
abbrev pub surroundings : List ℕ → ℕ → ℕ → Surroundings
surroundings bytes start end = record { before = take start bytes; after = drop end bytes }

-- those around a match, if its buffer is all that is searched. In any other buffer they depend on
-- how the input came, and none count
abbrev pub match_surroundings : MatchReport → Surroundings
match_surroundings m =
    if m.whole then surroundings m.buffer m.start m.end else no_surroundings

-- a line that isn't a match: its kind, its number, its offset in the whole decoded input and its
-- bytes
pub record ContextReport : Type 0 where
  pub kind : SinkContextKind
  pub line_number : Option ℕ
  pub offset : ℕ
  pub bytes : List ℕ

-- the end of a search: the byte count, and the offset of the first binary byte
pub record FinishReport : Type 0 where
  pub byte_count : ℕ
  pub binary_byte_offset : Option ℕ
