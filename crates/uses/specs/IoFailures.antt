-- Why a search of a slice fails if its sink has an `io::Error`.
use Rattle.std.specs.Prelude.{◌≡◌, ◌⊎◌, ℕ, List, Option}
use Rattle.std.specs.IoError.{error_kind}
use Rattle.std.specs.declared.io.Error.{Error}
use Rattle.std.specs.declared.io.ErrorKind.TheVariants.{OutOfMemory}
use Rattle.grep_searcher.specs.ErrorMakers.{makers_of}
use Rattle.grep_searcher.specs.MatcherFailures.{io_error_makers, IsSliceFailure}
use Rattle.grep_searcher.specs.Meanings.{MatcherFacts}
use Rattle.grep_searcher.specs.Plans.{SearcherState}
use Rattle.grep_searcher.specs.declared.SearchError.{SearchError}
use Rattle.grep_searcher.specs.declared.SearchError.TheVariants.{Io}

-- there was no memory
abbrev pub IsMemoryError : Error → Type 0
IsMemoryError e = error_kind e ≡ OutOfMemory

-- the error holds one of being out of memory, or one that isn't the sink's own
abbrev pub IsIoFailure : {F A : Type 0} → (F → Option (List ℕ)) → MatcherFacts F → SearcherState
    → List ℕ → SearchError A → Type 0
IsIoFailure text_of matcher state input e =
    (error : Error) × (e ≡ Io error) × (IsMemoryError error
    ⊎ IsSliceFailure (makers_of text_of io_error_makers) matcher state input error)
