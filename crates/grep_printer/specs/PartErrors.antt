-- Why the parts of a report aren't found, and the errors of a search for that.
use Rattle.std.specs.Prelude.{List, Option, ℕ}
use Rattle.std.specs.Global.{Global}
use Rattle.grep_searcher.specs.SearchErrors.{IsMessageOf, IsOutOfMemory}
use Rattle.grep_searcher.specs.declared.SearchError.{SearchError}
use Rattle.grep_replace.specs.declared.parts.PartsError.{PartsError}
use Rattle.grep_replace.specs.declared.parts.PartsError.TheVariants.{Matcher, Memory}

-- the error is one of being out of memory, or the matcher's error as a message, by what its
-- `Display` writes
abbrev pub IsErrorOf : {F : Type 0} → (F → Option (List ℕ)) → PartsError F → SearchError Global
    → Type 0
IsErrorOf output Memory e = IsOutOfMemory e
IsErrorOf output (Matcher error) e = IsMessageOf (output error) e

-- each error of a search that is made of this one is such an error
abbrev pub EachErrorIs : {F : Type 0} → (F → Option (List ℕ)) → (SearchError Global → Type 0)
    → PartsError F → Type 0
EachErrorIs output IsSo error = (e : SearchError Global) → IsErrorOf output error e → IsSo e

-- an error is the matcher's, for some bytes, as a message with the text that its `Display` writes,
-- if that is known, or with no text
abbrev pub IsMatcherError : {F : Type 0} → (F → Option (List ℕ)) → (List ℕ → F → Type 0) → List ℕ
    → SearchError Global → Type 0
IsMatcherError {F} output fails bytes e =
    (error : F) × fails bytes error × IsMessageOf (output error) e
