-- What a line buffer holds of the bytes that a decoder gave, for the invariant of `read_by_line`.
-- No contract cites it.
use Rattle.std.specs.Prelude.{◌≡◌, ℕ, List, ◌++◌, Option}
use Rattle.grep_decode.specs.DecoderStates.{DecoderState, Decodes}
use Rattle.grep_decode.specs.Source.{ReadResult}
use Rattle.grep_line_buffer.specs.declared.detection.Detection.{Detection}
use Rattle.grep_line_buffer.specs.BufferStates.{BufferState, held_bytes}
use Rattle.grep_line_buffer.specs.Detections.{detected_bytes, found_in}

module _ {R : Type 0} (remaining : R → Option (List ℕ)) (step : R → ReadResult → R → Type 0) where
  -- Reads of a decoder gave some bytes. What detection makes of these is what was consumed and then
  -- what is held, and where the first binary byte is among them is known.
  pub record HoldsGiven (gone : List ℕ) (detection : Detection) (t : ℕ) (w : BufferState)
      (decoder : DecoderState) (reader : R)
      (given : List ℕ) (decoder' : DecoderState) (reader' : R) : Type 0 where
    pub whole : gone ++ held_bytes w ≡ detected_bytes detection t given
    pub found : w.binary ≡ found_in detection t given
    pub decodes : Decodes remaining step decoder reader given decoder' reader'
