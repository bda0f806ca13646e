-- Why a search of a reader fails, also if its matcher may fail.
use Rattle.std.specs.Prelude.{◌⊎◌, ℕ, List, Option}
use Rattle.grep_searcher.specs.ErrorMakers.{ErrorMakers}
use Rattle.grep_searcher.specs.MatcherFailures.{FailsAtQuestion}
use Rattle.grep_searcher.specs.Meanings.{MatcherFacts}
use Rattle.grep_searcher.specs.Plans.{SearcherState}
use Rattle.grep_searcher.specs.Searches.{EndsUnread}
use Rattle.grep_searcher.specs.Source.{ReadResult}

-- an error that isn't the sink's own: it is of the matcher's at a question, or the reader wasn't
-- read to its end
abbrev pub IsReaderFailure : {R E F : Type 0} → (R → Option (List ℕ))
    → (R → ReadResult → R → Type 0) → ErrorMakers F E → MatcherFacts F → SearcherState → R → E → R
    → Type 0
IsReaderFailure remaining read_step errors matcher state old e new =
    FailsAtQuestion errors matcher e
    ⊎ EndsUnread remaining read_step errors.is_io state matcher.meaning old e new
