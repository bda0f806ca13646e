-- Texts that are put together a piece at a time, and written where there are more than are kept.
use Rattle.std.specs.Prelude.{◌≡◌, ◌⊎◌, ◌≤◌, ℕ, Bool, false, true, ◌||◌, List, [], ◌++◌, length}
use Rattle.std.specs.Prelude.{Result, Ok, Err}
use Rattle.std.specs.declared.io.Error.{Error}
use Rattle.grep_output.specs.Outputs.{Begins, FailsToWrite, OutputCall}
use Rattle.grep_output.specs.PendingTexts.{PutsAll, pending_bytes}
use Rattle.grep_printer.specs.Formats.{is_text}
use Rattle.grep_printer.specs.declared.text_writer.TextError.{TextError}
use Rattle.grep_printer.specs.declared.text_writer.TextError.TheVariants.{Io, OutOfMemory}
use Rattle.grep_printer.specs.declared.text_writer.TextWriter.{TextWriter}

-- what a writer of texts refers to stays the same, and so does how many bytes it keeps
pub record IsSameWriter {W : Type 0} (old new : TextWriter W) : Type 0 where
  pub pending : new.pending.ghost_name ≡ old.pending.ghost_name
  pub writer : new.writer.ghost_name ≡ old.writer.ghost_name
  pub buffer_size : new.buffer_size ≡ old.buffer_size

-- there was memory for a text
abbrev pub had_memory : {T : Type 0} → Result T TextError → Bool
had_memory (Ok result) = true
had_memory (Err (Io error)) = true
had_memory (Err OutOfMemory) = false

module _ {W : Type 0} (step : W → OutputCall → W → Type 0) where
  -- a piece is put after the texts before it. All that is pending is kept, or it is written, if it
  -- is more than is kept. Otherwise the writer failed, or there was no memory for the piece
  abbrev pub PiecePut : TextWriter W → Result (Unit {0}) TextError → TextWriter W → Type 0
  PiecePut old (Ok u) new =
      (old.pending.now.has_failed ≡ false)
      × PutsAll step old.writer.now old.pending.now.before old.pending.now.text
      new.writer.now (pending_bytes new.pending.now)
      × (length (pending_bytes new.pending.now) ≤ new.buffer_size)
      × (length (pending_bytes old.pending.now) ≤ old.buffer_size → new.writer.now ≡ old.writer.now)
  PiecePut old (Err (Io error)) new =
      (old.pending.now.has_failed ≡ false)
      × FailsToWrite step old.writer.now (pending_bytes old.pending.now) error new.writer.now
      × (pending_bytes new.pending.now ≡ [])
  PiecePut old (Err OutOfMemory) new =
      (new.writer.now ≡ old.writer.now)
      × (pending_bytes new.pending.now ≡ old.pending.now.before)

  -- a text is put after what is pending. No more is kept than may be kept, and if all of it is kept
  -- nothing is written
  pub record PutsText (old : TextWriter W) (text : List ℕ) (new : TextWriter W) : Type 0 where
    pub same : IsSameWriter old new
    pub put : PutsAll step old.writer.now (pending_bytes old.pending.now) text
        new.writer.now (pending_bytes new.pending.now)
    pub kept : length (pending_bytes new.pending.now) ≤ new.buffer_size
    pub unwritten : length (pending_bytes old.pending.now ++ text) ≤ old.buffer_size
        → new.writer.now ≡ old.writer.now
    pub has_written : new.has_written ≡ (old.has_written || is_text text)

  -- the writer failed after some first bytes of what was pending and of a text
  pub record FailsToPut (old : TextWriter W) (text : List ℕ) (error : Error) (new : TextWriter W)
      : Type 0 where
    pub same : IsSameWriter old new
    pub failed : FailsToWrite step old.writer.now (pending_bytes old.pending.now ++ text) error
        new.writer.now
    pub pending : pending_bytes new.pending.now ≡ []

  -- some first bytes of a text are put after what was pending, and there is no memory for the
  -- others
  pub record PutsSome (old : TextWriter W) (text : List ℕ) (new : TextWriter W) : Type 0 where
    pub same : IsSameWriter old new
    pub part : List ℕ
    pub begins : Begins part text
    pub put : PutsAll step old.writer.now (pending_bytes old.pending.now) part
        new.writer.now (pending_bytes new.pending.now)

  -- what comes of a text that is put in pieces
  abbrev pub PutsInPieces : {T : Type 0} → TextWriter W → List ℕ → Result T TextError
      → TextWriter W → Type 0
  PutsInPieces old text (Ok result) new = PutsText old text new
  PutsInPieces old text (Err (Io error)) new = FailsToPut old text error new
  PutsInPieces old text (Err OutOfMemory) new = PutsSome old text new
