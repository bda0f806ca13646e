-- One read into a line buffer.
use Rattle.std.specs.Prelude.{◌≡◌, ◌⊎◌, ℕ, ◌+◌, ◌-◌, ◌≤◌, List, [], ◌++◌, length, take, drop}
use Rattle.std.specs.Prelude.{Option}
use Rattle.std.specs.Option.{option_map}
use Rattle.std.specs.Io.KnownBytes.{Consumes, Keeps, IsAtEnd}
use Rattle.std.specs.declared.io.Error.{Error}
use Rattle.grep_decode.specs.declared.mode.Mode.TheVariants.{Passing}
use Rattle.grep_decode.specs.DecoderStates.{DecoderState, Decodes, FailsToDecode, IsDone, IsSettled}
use Rattle.grep_decode.specs.DecoderStates.{HasReadNothing, HasSettled, HasWaited, TakesAtMost}
use Rattle.grep_decode.specs.DecoderStates.{WaitsForMore, runs_ahead, yet}
use Rattle.grep_decode.specs.Source.{ReadResult}
use Rattle.grep_line_buffer.specs.BufferStates.{BufferState, held_bytes}
use Rattle.grep_line_buffer.specs.Detections.{detected_bytes, found_in, first_of}

-- Detection changed the last bytes that are held, so many of them, and none but these. It never
-- adds one.
pub record Detects (count : ℕ) (old new : BufferState) : Type 0 where
  pub appended : new.rest ≡ take (length old.rest - count) old.rest
      ++ detected_bytes old.detection old.terminator (drop (length old.rest - count) old.rest)
  pub found : new.binary
      ≡ first_of old.binary (option_map (λ i. old.offset + (length (held_bytes old) - count) + i)
      (found_in old.detection old.terminator (drop (length old.rest - count) old.rest)))
  pub free : new.free + length (held_bytes new) ≡ old.free + length (held_bytes old)
  pub others : new ≡ record old { rest = new.rest; free = new.free; binary = new.binary }

module _ {R : Type 0} (remaining : R → Option (List ℕ)) (step : R → ReadResult → R → Type 0) where
  -- One read of a decoder gave these bytes, none only at the end, and the decoder has settled on a
  -- mode.
  pub record Reads (decoder : DecoderState) (reader : R) (given : List ℕ)
      (decoder' : DecoderState) (reader' : R) : Type 0 where
    pub decodes : Decodes remaining step decoder reader given decoder' reader'
    pub gives : Consumes (yet decoder (remaining reader)) (yet decoder' (remaining reader')) given
    pub settled : HasSettled decoder'
    pub stays : IsSettled decoder.mode → decoder'.mode ≡ decoder.mode
    pub ahead : decoder'.mode ≡ Passing
        → TakesAtMost (remaining reader) (remaining reader')
        (length given + runs_ahead decoder.mode)
    pub done : given ≡ [] → IsDone decoder'
    pub end : given ≡ [] → IsAtEnd (yet decoder' (remaining reader'))
    pub begins : HasReadNothing decoder → HasWaited remaining step decoder reader reader'
    pub last : (reader' ≡ reader) ⊎ HasWaited remaining step decoder reader reader'

  -- One read of a decoder failed, and nothing is lost.
  pub record FailsToRead (decoder : DecoderState) (reader : R) (error : Error)
      (decoder' : DecoderState) (reader' : R) : Type 0 where
    pub failed : FailsToDecode remaining step decoder reader error decoder' reader'
    pub keeps : Keeps (yet decoder (remaining reader)) (yet decoder' (remaining reader'))
    pub stays : IsSettled decoder.mode → decoder'.mode ≡ decoder.mode
    pub waiting : WaitsForMore decoder'

  -- One read of a decoder gave so many bytes, which the buffer holds after the others.
  pub record Appends (count : ℕ) (old : BufferState) (decoder : DecoderState) (reader : R)
      (new : BufferState)
      (decoder' : DecoderState) (reader' : R) : Type 0 where
    pub given : List ℕ
    pub counted : length given ≡ count
    pub fits : count ≤ old.free
    pub appended : new ≡ record old { rest = old.rest ++ given; free = old.free - count }
    pub reads : Reads decoder reader given decoder' reader'
