-- What a decoder holds, what it has still to give, and what its reads do.
use Rattle.std.specs.Prelude.{◌≡◌, ◌⊎◌, ℕ, ◌+◌, ◌<◌, ◌≤◌, Bool, true, false, ◌||◌, List, [], ◌++◌}
use Rattle.std.specs.Prelude.{length, Option}
use Rattle.std.specs.Prelude.{None, Some, is_some, Ok, Err, IfSome, if◌then◌else◌}
use Rattle.std.specs.List.{concat}
use Rattle.std.specs.Option.{option_map}
use Rattle.std.specs.Io.KnownBytes.{Consumes, IsAtEnd}
use Rattle.grep_decode.specs.declared.mode.Mode.{Mode}
use Rattle.grep_decode.specs.declared.mode.Mode.TheVariants.{Fresh, Passing, Decoding}
use Rattle.grep_decode.specs.declared.label.Label.{Label}
use Rattle.grep_decode.specs.declared.label.Label.TheVariants.{Utf8, Utf16Le, Utf16Be}
use Rattle.grep_decode.specs.Decoded.{IsUnfinished, decoded, found_mark, mark_of, text_of}
use Rattle.grep_decode.specs.Source.{ReadResult, Pulls, Reads}
use Rattle.std.specs.declared.io.Error.{Error}

-- A decoder: decoded bytes that weren't given yet, bytes of the reader that weren't decoded yet,
-- how the reader's bytes are read, whether the reader has returned no bytes, and for how many bytes
-- of the reader there is room.
pub record DecoderState : Type 0 where
  pub ready : List ℕ
  pub held : List ℕ
  pub mode : Mode
  pub has_ended : Bool
  pub capacity : ℕ

-- a decoder that was started and has read nothing
abbrev pub started : ℕ → Option Label → Bool → DecoderState
started capacity label sniff =
    record {
      ready = [];
      held = [];
      mode = Fresh label sniff;
      has_ended = false;
      capacity = capacity;
    }

-- what an input becomes in this mode
abbrev pub decode_by : Mode → List ℕ → List ℕ
decode_by (Fresh label sniff) input = decoded label sniff input
decode_by Passing input = input
decode_by (Decoding label) input = text_of label input

-- the bytes that a decoder can still get from its reader
abbrev pub unread : Bool → List ℕ → List ℕ
unread has_ended rest = if has_ended then [] else rest

-- what a decoder has still to give, if these are the bytes that remain of its reader
abbrev pub still_to_give : DecoderState → List ℕ → List ℕ
still_to_give d rest = d.ready ++ decode_by d.mode (d.held ++ unread d.has_ended rest)

-- and what it has, if the reader may not say which bytes remain
abbrev pub yet : DecoderState → Option (List ℕ) → Option (List ℕ)
yet d remaining = option_map (still_to_give d) remaining

-- ---- modes

-- how an input is read on after its mark, if one was found
abbrev pub mode_of : Option Label → Option Label → Mode
mode_of (Some Utf8) label = Passing
mode_of (Some Utf16Le) label = Decoding Utf16Le
mode_of (Some Utf16Be) label = Decoding Utf16Be
mode_of None None = Passing
mode_of None (Some label) = Decoding label

-- the mode in which an input is read on after its mark
abbrev pub mode_after : Mode → List ℕ → Mode
mode_after (Fresh label sniff) input = mode_of (found_mark label sniff input) label
mode_after Passing input = Passing
mode_after (Decoding label) input = Decoding label

-- the mode in which a decoder reads on after the mark, if these bytes remain of the reader
abbrev pub next_mode : DecoderState → List ℕ → Mode
next_mode d rest = mode_after d.mode (d.held ++ unread d.has_ended rest)

-- the mark was looked for
abbrev pub IsSettled : Mode → Type 0
IsSettled (Fresh label sniff) = ⊥
IsSettled Passing = Unit {0}
IsSettled (Decoding label) = Unit {0}

-- a decoder that was started and has read nothing
pub record HasReadNothing (d : DecoderState) : Type 0 where
  pub fresh : IsSettled d.mode → ⊥
  pub held : d.held ≡ []
  pub unended : d.has_ended ≡ false

-- a mark is still to be looked for
abbrev pub LooksForMark : Mode → Type 0
LooksForMark (Fresh label sniff) = (sniff || is_some label) ≡ true
LooksForMark Passing = ⊥
LooksForMark (Decoding label) = ⊥

-- bytes that wait for more after an error: fewer than three while a mark is looked for, none if
-- they pass unchanged, and else the beginning of a character or none
abbrev pub IsWaiting : Mode → List ℕ → Type 0
IsWaiting (Fresh label sniff) held = ((sniff || is_some label) ≡ true) × (length held < 3)
IsWaiting Passing held = held ≡ []
IsWaiting (Decoding label) held = IsUnfinished label held

-- what reads keep of a decoder: for how many bytes there is room, and how the reader's bytes are
-- read once a mark was looked for
pub record IsSameDecoder (old new : DecoderState) : Type 0 where
  pub capacity : new.capacity ≡ old.capacity
  pub stays : IsSettled old.mode → new.mode ≡ old.mode

-- after a read that didn't fail: a mark was looked for, and of bytes that pass unchanged none is
-- held and at most three are ready
pub record HasSettled (d : DecoderState) : Type 0 where
  pub settled : IsSettled d.mode
  pub passing : d.mode ≡ Passing → (length d.ready ≤ 3) × (d.held ≡ [])

-- after a read that failed: no byte is ready, and those that are held wait for more
pub record WaitsForMore (d : DecoderState) : Type 0 where
  pub empty : d.ready ≡ []
  pub waits : IsWaiting d.mode d.held

-- how many bytes more than it gives a read takes from the reader at most, if the bytes pass
-- unchanged
abbrev pub runs_ahead : Mode → ℕ
runs_ahead (Fresh label sniff) = if sniff || is_some label then 3 else 0
runs_ahead Passing = 0
runs_ahead (Decoding label) = 0

-- no mark is found in these bytes
abbrev pub HasNoMark : Mode → List ℕ → Type 0
HasNoMark (Fresh label sniff) input = found_mark label sniff input ≡ None
HasNoMark Passing input = Unit {0}
HasNoMark (Decoding label) input = Unit {0}

-- ---- calls of the reader

-- at most so many bytes were taken from the reader
abbrev pub TakesAtMost : Option (List ℕ) → Option (List ℕ) → ℕ → Type 0
TakesAtMost before after most = (came : List ℕ) × (length came ≤ most) × Consumes before after came

-- what is held in each mode: while a mark is looked for, some of its bytes; if the bytes pass
-- unchanged, what was read ahead is ready
abbrev pub FitsMode : Mode → List ℕ → List ℕ → Type 0
FitsMode (Fresh label sniff) ready held = (ready ≡ []) × (length held ≤ 3)
FitsMode Passing ready held = (length ready ≤ 3) × (held ≡ [])
FitsMode (Decoding label) ready held = Unit {0}

-- the reader has returned no bytes, and nothing is left to give
pub record IsDone (d : DecoderState) : Type 0 where
  pub ended : d.has_ended ≡ true
  pub ready : d.ready ≡ []
  pub held : d.held ≡ []

module _ {R : Type 0} (remaining : R → Option (List ℕ)) (step : R → ReadResult → R → Type 0) where
  -- The calls of the reader that returned these pieces, by whether it had ended before and has
  -- ended now: when it ends, one more call returned no bytes; after its end it isn't called.
  abbrev pub ReadsSince : Bool → Bool → R → List (List ℕ) → R → Type 0
  ReadsSince false has old pieces new = Reads remaining step has old pieces new
  ReadsSince true has old pieces new = (has ≡ true) × (pieces ≡ []) × (new ≡ old)

  -- Reads of a decoder gave these bytes: calls of the reader returned some pieces, and what the
  -- decoder had still to give is what it gave and what it has still to give now, whichever bytes
  -- are still to come.
  pub record Decodes
      (old : DecoderState) (reader : R) (given : List ℕ) (new : DecoderState) (reader' : R)
      : Type 0 where
    pub pieces : List (List ℕ)
    pub calls : ReadsSince old.has_ended new.has_ended reader pieces reader'
    -- what is held is the last of what was held and came
    pub last : (front : List ℕ) × (old.held ++ concat pieces ≡ front ++ new.held)
    pub takes : Consumes (remaining reader) (remaining reader') (concat pieces)
    pub gives : (more : List ℕ) → (new.has_ended ≡ true → more ≡ [])
        → still_to_give old (concat pieces ++ more) ≡ given ++ still_to_give new more
    pub settles : (more : List ℕ) → (new.has_ended ≡ true → more ≡ [])
        → next_mode old (concat pieces ++ more) ≡ next_mode new more
    -- a mark is looked for once, in three bytes, or in fewer if they are all. Until then nothing is
    -- given, and all that was taken is held
    pub stays : IsSettled old.mode → new.mode ≡ old.mode
    pub unsettled : (IsSettled new.mode → ⊥)
        → (new.mode ≡ old.mode) × (given ≡ []) × (new.held ≡ old.held ++ concat pieces)
    pub enough : LooksForMark old.mode → IsSettled new.mode
        → (3 ≤ length old.held + length (concat pieces)) ⊎ (new.has_ended ≡ true)
    -- how many more bytes were taken than given, if they pass unchanged: none but those that are
    -- held, and at most three more as a mark is looked for
    pub passes : old.mode ≡ Passing
        → length old.held + length (concat pieces) ≤ length given + length new.held
    pub ahead : new.mode ≡ Passing
        → length old.held + length (concat pieces) ≤ length given + length new.held + 3

  -- A read of a decoder failed: calls of the reader returned some pieces, of which nothing is lost,
  -- and then one returned this error.
  pub record FailsToDecode
      (old : DecoderState) (reader : R) (error : Error) (new : DecoderState) (reader' : R)
      : Type 0 where
    pub mid : R
    pub decodes : Decodes old reader [] new mid
    pub unended : new.has_ended ≡ false
    pub failed : step mid (Err error) reader'

  -- Before the last call of the reader in a read of a decoder, calls had returned some pieces that
  -- gave nothing: no byte was ready, and those that were held waited for more.
  pub record HasWaited (old : DecoderState) (reader reader' : R) : Type 0 where
    pub waiting : DecoderState
    pub mid : R
    pub decodes : Decodes old reader [] waiting mid
    pub unended : waiting.has_ended ≡ false
    pub empty : waiting.ready ≡ []
    pub waits : IsWaiting waiting.mode waiting.held
    pub piece : List ℕ
    pub called : step mid (Ok piece) reader'

  -- All that a reader returned until it returned no bytes, decoded, is this.
  pub record IsDecoded
      (label : Option Label) (sniff : Bool) (reader : R) (given : List ℕ) (reader' : R)
      : Type 0 where
    pub pieces : List (List ℕ)
    pub mid : R
    pub pulled : Pulls step reader pieces mid
    pub ended : step mid (Ok []) reader'
    pub text : given ≡ decoded label sniff (concat pieces)
    pub whole : IfSome (remaining reader) (λ all. all ≡ concat pieces)

-- the length of a mark, and 0 for none
abbrev pub mark_length : Option Label → ℕ
mark_length None = 0
mark_length (Some label) = length (mark_of label)
