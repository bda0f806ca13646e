-- What contracts see of a line buffer.
use Rattle.std.specs.Prelude.{◌≡◌, ◌≢◌, ◌⊎◌, ℕ, ◌+◌, ◌*◌, ◌-◌, ◌<◌, ◌≤◌, Bool, true, false, List}
use Rattle.std.specs.Prelude.{[], ◌++◌, length}
use Rattle.std.specs.Prelude.{drop, All, Option, None, Some, is_some, ◌&&◌, if◌then◌else◌}
use Rattle.std.specs.Prelude.{slice_index}
use Rattle.std.specs.Option.{option_map}
use Rattle.std.specs.Io.KnownBytes.{prepend_known, Keeps}
use Rattle.grep_line_buffer.specs.declared.detection.Detection.{Detection}
use Rattle.grep_line_buffer.specs.Detections.{detected_bytes, is_quit}

-- A line buffer: the bytes that it shows, the bytes that it holds after them, the offset of its
-- first byte in the whole input, its size in bytes, the most that this may become, how many bytes
-- are free, the byte that ends a line, what it does with binary bytes, the offset of the first
-- binary byte that it read, and whether the end of the input was seen.
pub record BufferState : Type 0 where
  pub shown : List ℕ
  pub rest : List ℕ
  pub offset : ℕ
  pub size : ℕ
  pub limit : Option ℕ
  pub free : ℕ
  pub terminator : ℕ
  pub detection : Detection
  pub binary : Option ℕ
  pub has_ended : Bool

-- a buffer that holds nothing, at the start of an input
abbrev pub empty_buffer : ℕ → Option ℕ → ℕ → Detection → BufferState
empty_buffer size limit terminator detection = record {
  shown = [];
  rest = [];
  offset = 0;
  size = size;
  limit = limit;
  free = size;
  terminator = terminator;
  detection = detection;
  binary = None;
  has_ended = false;
}

-- all bytes that a buffer holds
abbrev pub held_bytes : BufferState → List ℕ
held_bytes w = w.shown ++ w.rest

-- the input ended at a binary byte
abbrev pub has_quit : BufferState → Bool
has_quit w = is_quit w.detection && is_some w.binary

-- no byte is t
abbrev pub Lacks : ℕ → List ℕ → Type 0
Lacks t bytes = All (λ b. b ≢ t) bytes

-- there is a last byte, and it is t
pub record EndsWith (t : ℕ) (bytes : List ℕ) : Type 0 where
  pub some : 0 < length bytes
  pub last : slice_index bytes (length bytes - 1) ≡ t

-- a number is at most the limit, if there is one
abbrev pub IsWithin : Option ℕ → ℕ → Type 0
IsWithin None n = Unit {0}
IsWithin (Some most) n = n ≤ most

-- what a buffer will hold of the bytes that are still to come, if they are known: nothing once the
-- input was cut
abbrev pub coming_to : BufferState → Option (List ℕ) → Option (List ℕ)
coming_to w coming =
    if has_quit w then Some [] else option_map (detected_bytes w.detection w.terminator) coming

-- the bytes that a buffer holds, and then those
abbrev pub stream : BufferState → Option (List ℕ) → Option (List ℕ)
stream w coming = prepend_known (held_bytes w) (coming_to w coming)

-- no byte of the stream was lost
abbrev pub KeepsStream : BufferState → BufferState → Option (List ℕ) → Option (List ℕ) → Type 0
KeepsStream old new before after = Keeps (stream old before) (stream new after)

-- a fill changes nothing but what is held and shown, the size, what was found, and whether the end
-- was seen
pub record IsSameBuffer (old new : BufferState) : Type 0 where
  pub offset : new.offset ≡ old.offset
  pub limit : new.limit ≡ old.limit
  pub terminator : new.terminator ≡ old.terminator
  pub detection : new.detection ≡ old.detection

-- the size is as before, or a full buffer grew, to at most twice the bytes that it holds now
abbrev pub GrowsIfFull : BufferState → BufferState → Type 0
GrowsIfFull old new = (new.size ≡ old.size)
    ⊎ (old.size < new.size) × (old.size ≤ length (held_bytes new))
    × (new.size ≤ 2 * length (held_bytes new) + 1)

-- Some of the bytes that were read last end a line, and just after the last of these the shown
-- bytes end.
pub record ShowsLine (old new : BufferState) (count : ℕ) : Type 0 where
  pub whole : held_bytes new ≡ held_bytes old
  pub ends : EndsWith old.terminator new.shown
  pub none : Lacks old.terminator new.rest
  pub reached : length (held_bytes old) < length new.shown + count
  pub others : new ≡ record old { shown = new.shown; rest = new.rest }

-- a terminator came, and the shown bytes end just after the last one
pub record EndsAtLine (old new : BufferState) : Type 0 where
  pub came : length (held_bytes old) < length new.shown
  pub ends : EndsWith old.terminator new.shown
  pub none : Lacks old.terminator new.rest
  pub unended : new.has_ended ≡ false

-- the end came before any terminator, and all bytes that are left are shown
pub record EndsAtEnd (old new : BufferState) : Type 0 where
  pub none : Lacks old.terminator (drop (length (held_bytes old)) new.shown)
  pub all : new.rest ≡ []
  pub room : length new.shown < new.size
  pub ended : new.has_ended ≡ true

-- a binary byte ended the input, and all bytes before it are shown
pub record EndsAtByte (new : BufferState) : Type 0 where
  pub cut : has_quit new ≡ true
  pub all : new.rest ≡ []
  pub room : length new.shown < new.size
  pub ended : new.has_ended ≡ true

-- what a buffer shows after a fill that succeeded
abbrev pub IsFilled : BufferState → BufferState → Type 0
IsFilled old new = EndsAtLine old new ⊎ (EndsAtEnd old new ⊎ EndsAtByte new)

-- after a fill that failed: the bytes that were held before are shown, and what came since has no
-- terminator
pub record HasNoLine (old new : BufferState) : Type 0 where
  pub shown : new.shown ≡ held_bytes old
  pub none : Lacks old.terminator new.rest
  pub unended : new.has_ended ≡ false
