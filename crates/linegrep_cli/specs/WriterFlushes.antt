-- What a printer does when it is flushed.
use Rattle.std.specs.Prelude.{◌≡◌, true, if◌then◌else◌, is_ok, [], Result}
use Rattle.std.specs.declared.io.Error.{Error}
use Rattle.grep_output.specs.Outputs.{OutputCall}
use Rattle.grep_output.specs.PendingTexts.{Flushes, pending_bytes}
use Rattle.grep_printer.specs.declared.printer.Printer.{Printer as Writer}

module _ {W : Type 0} (write_step : W → OutputCall → W → Type 0) where
  -- a printer of any format writes what is pending, and flushes its writer
  pub record IsWriterFlushed {F : Type 0} (writer : W) (old : Writer F)
      (result : Result (Unit {0}) Error) (writer' : W) (new : Writer F) : Type 0 where
    pub flushed : Flushes write_step writer (pending_bytes old.pending) result writer'
    pub emptied : pending_bytes new.pending ≡ []
    pub format : new.format ≡ old.format
    pub buffer_size : new.buffer_size ≡ old.buffer_size
    pub has_written : new.has_written ≡ old.has_written
    pub has_failed : new.has_failed ≡ (if is_ok result then old.has_failed else true)
