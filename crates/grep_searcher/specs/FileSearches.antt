-- What a search of a file does.
use Rattle.std.specs.Prelude.{◌≡◌, ◌⊎◌, ℕ, List, Option, IfSome, Result, Ok, Err}
use Rattle.std.specs.Io.KnownBytes.{Consumes, Keeps}
use Rattle.std.specs.declared.io.Error.{Error}
use Rattle.grep_decode.specs.Source.{ReadResult}
use Rattle.grep_report.specs.ErrorMakers.{ErrorMakers}
use Rattle.grep_matcher.specs.Meanings.{MatcherFacts, Meaning}
use Rattle.grep_definitions.specs.Searches.{EndsUnread, IsInOrder, IsReaderSearched}
use Rattle.grep_definitions.specs.Searches.{IsReadingError}
use Rattle.grep_definitions.specs.Plans.{Steps, SearcherState, Settings}

-- a read of a file, if it says which bytes remain: what it returned was their front, and an error
-- took none
abbrev pub IsFileRead : {F : Type 0} → (F → Option (List ℕ)) → F → ReadResult → F → Type 0
IsFileRead remaining old (Ok bytes) new = Consumes (remaining old) (remaining new) bytes
IsFileRead remaining old (Err e) new = Keeps (remaining old) (remaining new)

module _ {F : Type 0} (remaining : F → Option (List ℕ))
    {S E G : Type 0} (step : Steps S E) (errors : ErrorMakers G E) (matcher : MatcherFacts G) where
  -- a search of a file from where it is: that of a reader
  abbrev pub IsFileSearched : SearcherState → F → S → Result (Unit {0}) E → F → S → Type 0
  IsFileSearched state file old result file' new =
      IsReaderSearched remaining (IsFileRead remaining) step errors matcher state file old result
      file' new

-- the error of a search of a file is made of one by which the file wasn't read to its end
abbrev pub EndsFileUnread : {F E : Type 0} → (F → Option (List ℕ)) → (Error → E → Type 0)
    → SearcherState → Meaning → F → E → F → Type 0
EndsFileUnread remaining is_io state meaning file e file' =
    EndsUnread remaining (IsFileRead remaining) is_io state meaning file e file'

-- what opening the file at a path may return, if the path's text is known; else at some path
abbrev pub OpensAt : {F : Type 0} → (List ℕ → Result F Error → Type 0) → Option (List ℕ)
    → Result F Error → Type 0
OpensAt opens text result =
    (path : List ℕ) × IfSome text (λ known. path ≡ known) × opens path result

module _ {F : Type 0} (opens : List ℕ → Result F Error → Type 0)
    (remaining : F → Option (List ℕ)) {S E G : Type 0} (step : Steps S E)
    (errors : ErrorMakers G E) (matcher : MatcherFacts G) (path : Option (List ℕ)) where
  -- the error is that of opening the file, and the sink had no call
  abbrev pub IsUnopened : S → Result (Unit {0}) E → S → Type 0
  IsUnopened old result new =
      (error : Error) × (e : E) × (result ≡ Err e) × errors.is_io error e × (new ≡ old)
      × OpensAt opens path (Err error)

  -- a search of a path, also one that is refused: the file couldn't be opened, or it was opened
  -- first, and searched
  abbrev pub IsPathSearched : SearcherState → S → Result (Unit {0}) E → S → Type 0
  IsPathSearched state old result new =
      IsUnopened old result new
      ⊎ ((file : F) × (file' : F)
      × IsFileSearched remaining step errors matcher state file old result file' new
      × OpensAt opens path (Ok file))

  -- in which order a search of a path that isn't refused calls its sink: not at all if the file
  -- couldn't be opened, else as a search of the file that was opened
  abbrev pub IsPathInOrder : Settings → S → Result (Unit {0}) E → S → Type 0
  IsPathInOrder settings old result new =
      IsUnopened old result new
      ⊎ ((file : F) × (file' : F) × IsInOrder step errors matcher settings
      (IsReadingError remaining (IsFileRead remaining) file file') old result new
      × OpensAt opens path (Ok file))
