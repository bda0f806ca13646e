-- What a fill of a line buffer reads, and why it fails.
use Rattle.std.specs.Prelude.{◌≡◌, ◌≢◌, ◌⊎◌, ℕ, ◌+◌, ◌-◌, ◌^◌, ◌<◌, ◌≤◌, List, [], ◌++◌, length}
use Rattle.std.specs.Prelude.{Option, None, Some, true, false, Result, Ok, Err}
use Rattle.std.specs.Option.{option_map}
use Rattle.std.specs.declared.io.Error.{Error}
use Rattle.grep_decode.specs.declared.mode.Mode.TheVariants.{Passing}
use Rattle.grep_decode.specs.DecoderStates.{DecoderState, Decodes, HasReadNothing, HasSettled}
use Rattle.grep_decode.specs.DecoderStates.{HasWaited, IsSameDecoder, TakesAtMost, WaitsForMore}
use Rattle.grep_decode.specs.DecoderStates.{runs_ahead, yet}
use Rattle.grep_decode.specs.Reading.{FailsWith}
use Rattle.grep_decode.specs.Source.{ReadResult}
use Rattle.grep_line_buffer.specs.declared.fill_error.FillError.{FillError}
use Rattle.grep_line_buffer.specs.declared.fill_error.FillError.TheVariants.{Read, HeapLimit}
use Rattle.grep_line_buffer.specs.declared.fill_error.FillError.TheVariants.{Offset, Memory}
use Rattle.grep_line_buffer.specs.BufferStates.{BufferState, held_bytes, has_quit, HasNoLine, Lacks}
use Rattle.grep_line_buffer.specs.BufferStates.{GrowsIfFull, IsFilled, IsSameBuffer, IsWithin}
use Rattle.grep_line_buffer.specs.BufferStates.{KeepsStream}
use Rattle.grep_line_buffer.specs.Detections.{detected_bytes, found_in, first_of, is_quit}

-- the fact holds of the reader's error, if the result is one
abbrev pub IfRead : {X : Type 0} → Result X FillError → (Error → Type 0) → Type 0
IfRead (Ok x) P = Unit {0}
IfRead (Err (Read e)) P = P e
IfRead (Err HeapLimit) P = Unit {0}
IfRead (Err Offset) P = Unit {0}
IfRead (Err Memory) P = Unit {0}

-- the fact holds, unless the result is the reader's error
abbrev pub UnlessRead : {X : Type 0} → Result X FillError → Type 0 → Type 0
UnlessRead (Ok x) P = P
UnlessRead (Err (Read e)) P = Unit {0}
UnlessRead (Err HeapLimit) P = P
UnlessRead (Err Offset) P = P
UnlessRead (Err Memory) P = P

-- The offset after the bytes that are held is above 2^64 - 1. If the offset after the bytes that
-- were held before isn't, these are shown; else nothing changed.
pub record PassesOffsets (old new : BufferState) : Type 0 where
  pub past : 2 ^ 64 ≤ new.offset + length (held_bytes new)
  pub shown : old.offset + length (held_bytes old) < 2 ^ 64 → new.shown ≡ held_bytes old
  pub same : 2 ^ 64 ≤ old.offset + length (held_bytes old) → new ≡ old
  pub unended : new.has_ended ≡ false

-- A full buffer is at its limit.
pub record IsAtLimit (w : BufferState) : Type 0 where
  pub full : length (held_bytes w) ≡ w.size
  pub limit : w.limit ≡ Some w.size

-- A full buffer may grow.
pub record MayGrow (w : BufferState) : Type 0 where
  pub full : length (held_bytes w) ≡ w.size
  pub limit : w.limit ≢ Some w.size

-- what each error means
abbrev pub FillFails : BufferState → BufferState → FillError → Type 0
FillFails old new (Read e) = HasNoLine old new × (length (held_bytes new) < new.size)
FillFails old new HeapLimit = HasNoLine old new × IsAtLimit new
FillFails old new Offset = PassesOffsets old new
FillFails old new Memory = HasNoLine old new × MayGrow new

module _ {R : Type 0} (remaining : R → Option (List ℕ)) (step : R → ReadResult → R → Type 0) where
  -- Reads of the decoder gave some bytes. What detection makes of these was appended to what the
  -- buffer held, and the offset of the first binary byte is known. If the input was cut before,
  -- nothing was read. The buffer had room for all that was given, also for what came after a byte
  -- that ends the input.
  pub record Fills (old : BufferState) (decoder : DecoderState) (reader : R) (new : BufferState)
      (decoder' : DecoderState) (reader' : R) : Type 0 where
    pub given : List ℕ
    pub appended : held_bytes new
        ≡ held_bytes old ++ detected_bytes old.detection old.terminator given
    pub found : new.binary ≡ first_of old.binary
        (option_map (λ i. old.offset + length (held_bytes old) + i)
        (found_in old.detection old.terminator given))
    pub uncut : has_quit old ≡ true → given ≡ []
    pub fits : 0 < length given → length (held_bytes old) + length given ≤ new.size
    pub decodes : Decodes remaining step decoder reader given decoder' reader'

  -- A fill, and then one more call of the reader, which returned this error. The decoder has still
  -- to give all that it had then.
  pub record FailsToFill (error : Error) (old : BufferState) (decoder : DecoderState) (reader : R)
      (new : BufferState)
      (decoder' : DecoderState) (reader' : R) : Type 0 where
    pub mid : R
    pub fills : Fills old decoder reader new decoder' mid
    pub unended : decoder'.has_ended ≡ false
    pub failed : step mid (Err error) reader'

  -- What a fill keeps whatever it returns: of the bytes that are held and are still to come through
  -- the decoder none is lost, and a full buffer alone grows.
  pub record KeepsInput (old : BufferState) (decoder : DecoderState) (reader : R)
      (new : BufferState) (decoder' : DecoderState) (reader' : R) : Type 0 where
    pub same : IsSameBuffer old new
    pub within : IsWithin new.limit new.size
    pub grows : GrowsIfFull old new
    pub same_decoder : IsSameDecoder decoder decoder'
    pub stream : KeepsStream old new (yet decoder (remaining reader))
        (yet decoder' (remaining reader'))

  -- Before the last read that called the reader, the decoder had given some bytes. As detection
  -- makes them, none ends a line and none the input, and with those that the buffer held they are
  -- fewer than its limit.
  pub record HasWaitedForLine (old : BufferState) (decoder : DecoderState) (reader reader' : R)
      : Type 0 where
    pub given : List ℕ
    pub waiting : DecoderState
    pub mid : R
    pub decodes : Decodes remaining step decoder reader given waiting mid
    pub unended : Lacks old.terminator (detected_bytes old.detection old.terminator given)
    pub uncut : is_quit old.detection ≡ true → found_in old.detection old.terminator given ≡ None
    pub room : (limit : ℕ) → old.limit ≡ Some limit → length (held_bytes old) + length given < limit
    pub last : HasWaited remaining step waiting mid reader'

  -- A fill succeeded. The reader was called at first, and again only as long as no line had come;
  -- if the bytes pass unchanged, it is at most three bytes ahead of what was appended.
  pub record HasShown (old : BufferState) (decoder : DecoderState) (reader : R)
      (new : BufferState) (decoder' : DecoderState) (reader' : R) : Type 0 where
    pub shows : IsFilled old new
    pub fits : new.offset + length (held_bytes new) < 2 ^ 64
    pub begins : old.has_ended ≡ false → has_quit old ≡ false → HasReadNothing decoder
        → HasWaitedForLine old decoder reader reader'
    pub last : (reader' ≡ reader) ⊎ HasWaitedForLine old decoder reader reader'
    pub ahead : has_quit new ≡ false → decoder'.mode ≡ Passing
        → TakesAtMost (remaining reader) (remaining reader')
        (length (held_bytes new) - length (held_bytes old) + runs_ahead decoder.mode)
    pub settled : old.has_ended ≡ false → has_quit old ≡ false → HasSettled decoder'

  -- A fill ended in this error of the reader.
  pub record ReadFails (error : Error) (old : BufferState) (decoder : DecoderState) (reader : R)
      (new : BufferState) (decoder' : DecoderState) (reader' : R) : Type 0 where
    pub fails : FailsToFill error old decoder reader new decoder' reader'
    pub fault : FailsWith step reader error reader'
    pub uncut : has_quit new ≡ false
    pub waiting : WaitsForMore decoder'

  -- Fills continue. Reads of a decoder gave some bytes since the first fill, and what detection
  -- makes of these is what was consumed and then what is held. After one more fill the same holds
  -- of the bytes that were given by then, and the offset of the first binary byte is where it is
  -- among them.
  abbrev pub FillsContinue : Type 0
  FillsContinue =
      (old new : BufferState) (d d1 d2 : DecoderState) (r r1 r2 : R) (gone given : List ℕ)
      → Decodes remaining step d r given d1 r1
      → gone ++ held_bytes old ≡ detected_bytes old.detection old.terminator given
      → old.offset ≡ length gone → old.binary ≡ found_in old.detection old.terminator given
      → has_quit old ≡ false → (fill : Fills old d1 r1 new d2 r2)
      → Decodes remaining step d r (given ++ fill.given) d2 r2
      × (gone ++ held_bytes new
      ≡ detected_bytes old.detection old.terminator (given ++ fill.given))
      × (new.binary ≡ found_in old.detection old.terminator (given ++ fill.given))
