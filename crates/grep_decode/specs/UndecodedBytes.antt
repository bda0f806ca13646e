-- What contracts see of the bytes of a reader that weren't decoded yet.
use Rattle.std.specs.Prelude.{◌≡◌, ℕ, ◌==◌, Bool, List, [], ◌++◌, length, Option, Ok}
use Rattle.std.specs.Io.KnownBytes.{Consumes, IsAtEnd}
use Rattle.grep_decode.specs.declared.mode.Mode.{Mode}
use Rattle.grep_decode.specs.DecoderStates.{DecoderState}
use Rattle.grep_decode.specs.Source.{ReadResult}

-- the bytes, whether the reader has returned none, and for how many there is room
pub record UndecodedBytes : Type 0 where
  pub bytes : List ℕ
  pub has_ended : Bool
  pub capacity : ℕ

-- a decoder that holds these bytes, in this mode, and has nothing ready
abbrev pub holding : Mode → UndecodedBytes → DecoderState
holding mode u = record {
  ready = [];
  held = u.bytes;
  mode = mode;
  has_ended = u.has_ended;
  capacity = u.capacity;
}

-- one call of the reader returned a piece of this length, which came after the bytes
pub record Grows {R : Type 0} (remaining : R → Option (List ℕ)) (step : R → ReadResult → R → Type 0)
    (old : UndecodedBytes) (reader : R) (count : ℕ) (new : UndecodedBytes) (reader' : R)
    : Type 0 where
  pub piece : List ℕ
  pub counted : length piece ≡ count
  pub appended : new.bytes ≡ old.bytes ++ piece
  pub has_ended : new.has_ended ≡ (count == 0)
  pub capacity : new.capacity ≡ old.capacity
  pub called : step reader (Ok piece) reader'
  pub takes : Consumes (remaining reader) (remaining reader') piece
  pub ended : count ≡ 0 → IsAtEnd (remaining reader')
