-- What is read of a file that is open, or else of a reader.
use Rattle.std.specs.Prelude.{◌≡◌, ℕ, List, Option, None, Some, Ok, Err}
use Rattle.std.specs.Io.KnownBytes.{Consumes, Keeps}
use Rattle.std.specs.declared.io.Error.{Error}
use Rattle.std.proofs.Common.{subst, sym}
use Rattle.grep_searcher.specs.FileSearches.{IsFileRead}
use Rattle.grep_searcher.specs.Source.{ReadResult}
use Rattle.linegrep_cli.specs.declared.haystacks.Haystack.{Haystack}

module _ {F R : Type 0} (file_remaining : F → Option (List ℕ))
    (remaining : R → Option (List ℕ)) where
  -- the bytes that remain, if the file or the reader says which
  abbrev pub remaining_in : Option F → R → Option (List ℕ)
  remaining_in (Some file) reader = file_remaining file
  remaining_in None reader = remaining reader

  abbrev pub remaining_of : Haystack F R → Option (List ℕ)
  remaining_of haystack = remaining_in haystack.file haystack.reader

  module _ (read_step : R → ReadResult → R → Type 0) where
    -- a call reads the file, or else asks the reader
    abbrev pub IsPulledIn : Option F → R → ReadResult → Option F → R → Type 0
    IsPulledIn (Some file) reader result file' reader' = (read : F) × (file' ≡ Some read)
        × (reader' ≡ reader) × IsFileRead file_remaining file result read
    IsPulledIn None reader result file' reader' =
        (file' ≡ None) × read_step reader result reader'

    abbrev pub IsPulled : Haystack F R → ReadResult → Haystack F R → Type 0
    IsPulled old result new = IsPulledIn old.file old.reader result new.file new.reader

    -- a call returns the front of what remained, and takes nothing if it fails
    gives-in : ((old new : R) (bytes : List ℕ) → read_step old (Ok bytes) new
        → Consumes (remaining old) (remaining new) bytes)
        → (file : Option F) (reader : R) (bytes : List ℕ) (file' : Option F) (reader' : R)
        → IsPulledIn file reader (Ok bytes) file' reader'
        → Consumes (remaining_in file reader) (remaining_in file' reader') bytes
    gives-in gives (Some file) reader bytes file' reader' (read, is, same, taken) =
        subst (λ after. Consumes (file_remaining file) (remaining_in after reader') bytes) (sym is)
        taken
    gives-in gives None reader bytes file' reader' (is, step) =
        subst (λ after. Consumes (remaining reader) (remaining_in after reader') bytes) (sym is)
        (gives reader reader' bytes step)

    keeps-in : ((old new : R) (error : Error) → read_step old (Err error) new
        → Keeps (remaining old) (remaining new))
        → (file : Option F) (reader : R) (error : Error) (file' : Option F) (reader' : R)
        → IsPulledIn file reader (Err error) file' reader'
        → Keeps (remaining_in file reader) (remaining_in file' reader')
    keeps-in keeps (Some file) reader error file' reader' (read, is, same, kept) =
        subst (λ after. Keeps (file_remaining file) (remaining_in after reader')) (sym is) kept
    keeps-in keeps None reader error file' reader' (is, step) =
        subst (λ after. Keeps (remaining reader) (remaining_in after reader')) (sym is)
        (keeps reader reader' error step)

    pub pulled-gives : ((old new : R) (bytes : List ℕ) → read_step old (Ok bytes) new
        → Consumes (remaining old) (remaining new) bytes)
        → (old new : Haystack F R) (bytes : List ℕ) → IsPulled old (Ok bytes) new
        → Consumes (remaining_of old) (remaining_of new) bytes
    pulled-gives gives old new bytes pulled =
        gives-in gives old.file old.reader bytes new.file new.reader pulled

    pub pulled-keeps : ((old new : R) (error : Error) → read_step old (Err error) new
        → Keeps (remaining old) (remaining new))
        → (old new : Haystack F R) (error : Error) → IsPulled old (Err error) new
        → Keeps (remaining_of old) (remaining_of new)
    pulled-keeps keeps old new error pulled =
        keeps-in keeps old.file old.reader error new.file new.reader pulled
