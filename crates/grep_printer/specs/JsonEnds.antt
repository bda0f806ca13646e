-- What a printer does when it writes a text that belongs to no call, as the message about all
-- searches.
use Rattle.std.specs.Prelude.{◌≡◌, ◌⊎◌, ◌≤◌, ◌||◌, true, ℕ, List, [], ◌++◌, length, MatchResult}
use Rattle.std.specs.Prelude.{Option, Result}
use Rattle.std.specs.Borrow.{Bor}
use Rattle.std.specs.Global.{Global}
use Rattle.std.specs.declared.io.Error.{Error}
use Rattle.grep_output.specs.Outputs.{FailsToWrite, OutputCall}
use Rattle.grep_output.specs.PendingTexts.{PutsAll, pending_bytes}
use Rattle.grep_searcher.specs.SearchErrors.{IsOutOfMemory}
use Rattle.grep_searcher.specs.declared.SearchError.{SearchError}
use Rattle.grep_searcher.specs.declared.SearchError.TheVariants.{Io}
use Rattle.grep_printer.specs.Formats.{is_text}
use Rattle.grep_printer.specs.JsonTexts.{end_text, stats_of}
use Rattle.grep_printer.specs.declared.json_printer.JsonProgress.{JsonProgress}
use Rattle.grep_printer.specs.declared.printer.Printer.{Printer}
use Rattle.grep_printer.specs.declared.stats.Stats.{Stats}

module _ {F W : Type 0} (write_step : W → OutputCall → W → Type 0) where
  -- a text comes after what is pending, and nothing else. The writer has no call if both fit in the
  -- buffer. If no more was pending before than the printer keeps, no more is pending after it
  pub record PutsText (writer : W) (old : Printer F) (text : List ℕ) (writer' : W)
      (new : Printer F) : Type 0 where
    pub put : PutsAll write_step writer (pending_bytes old.pending) text writer'
        (pending_bytes new.pending)
    pub format : new.format ≡ old.format
    pub buffer_size : new.buffer_size ≡ old.buffer_size
    pub has_written : new.has_written ≡ (old.has_written || is_text text)
    pub has_failed : new.has_failed ≡ old.has_failed
    pub kept : length (pending_bytes old.pending) ≤ old.buffer_size
        → length (pending_bytes new.pending) ≤ new.buffer_size
    pub unwritten : length (pending_bytes old.pending ++ text) ≤ old.buffer_size
        → writer' ≡ writer

  -- the writer failed after some first bytes of what was pending and of a text
  pub record FailsAtText (writer : W) (old : Printer F) (text : List ℕ) (e : SearchError Global)
      (writer' : W) (new : Printer F) : Type 0 where
    pub error : Error
    pub is_io : e ≡ Io error
    pub failed : FailsToWrite write_step writer (pending_bytes old.pending ++ text) error writer'
    pub pending : pending_bytes new.pending ≡ []
    pub has_failed : new.has_failed ≡ true

  -- the writer had no call, and there was no memory
  pub record LacksMemoryForText (writer : W) (old : Printer F) (e : SearchError Global)
      (writer' : W) (new : Printer F) : Type 0 where
    pub unwritten : writer' ≡ writer
    pub pending : pending_bytes new.pending ≡ pending_bytes old.pending
    pub has_failed : new.has_failed ≡ old.has_failed
    pub memory : IsOutOfMemory e

  -- a text isn't written whole
  pub record FailsToPutText (writer : W) (old : Printer F) (text : List ℕ) (e : SearchError Global)
      (writer' : W) (new : Printer F) : Type 0 where
    pub format : new.format ≡ old.format
    pub buffer_size : new.buffer_size ≡ old.buffer_size
    pub has_written : new.has_written ≡ old.has_written
    pub cause : FailsAtText writer old text e writer' new
        ⊎ LacksMemoryForText writer old e writer' new

  -- by what is returned: a text comes after what is pending, or isn't written whole
  abbrev pub HasPutText : {X : Type 0} → W → Printer F → List ℕ → Result X (SearchError Global) → W
      → Printer F → Type 0
  HasPutText writer old text result writer' new =
      MatchResult result (λ _. PutsText writer old text writer' new)
      (λ e. FailsToPutText writer old text e writer' new)

  -- so it is of the message that a search has ended, and what was searched, found and written in it
  -- is returned
  abbrev pub HasPutEnd : W → Printer F → Option (Bor (List ℕ)) → JsonProgress → ℕ
      → Result Stats (SearchError Global) → W → Printer F → Type 0
  HasPutEnd writer old path progress elapsed result writer' new =
      MatchResult result (λ stats. (stats ≡ stats_of progress elapsed)
      × PutsText writer old (end_text path progress elapsed) writer' new)
      (λ e. FailsToPutText writer old (end_text path progress elapsed) e writer' new)
