-- The counts of files at paths.
use Rattle.std.specs.List.{AllZip, sum}
use Rattle.std.specs.Prelude.{◌≡◌, ℕ, ◌-◌, ◌^◌, Bool, true, List, min, Option, Some, Result, Ok}
use Rattle.std.specs.declared.io.Error.{Error}
use Rattle.grep_searcher.specs.BoundedReads.{IsReadToMatch}
use Rattle.grep_searcher.specs.FileSearches.{OpensAt}
use Rattle.grep_searcher.specs.LineCounts.{IsLineCount}
use Rattle.grep_searcher.specs.MatchHandlers.{has_selected}
use Rattle.grep_searcher.specs.Meanings.{MatcherFacts}
use Rattle.grep_searcher.specs.Plans.{SearcherState, Settings}
use Rattle.grep_searcher.specs.Searches.{searched_bytes}

-- how many decoded lines are matched of the file that opening a path returned, if it says which
-- bytes remain
abbrev pub IsCountAt : {F G : Type 0} → (List ℕ → Result F Error → Type 0)
    → (F → Option (List ℕ)) → MatcherFacts G → Settings → Option (List ℕ) → ℕ → Type 0
IsCountAt {F} opens remaining matcher settings path count =
    (file : F) × OpensAt opens path (Ok file)
    × ((input : List ℕ) → remaining file ≡ Some input → IsLineCount matcher settings input count)

-- whether a decoded line is selected of the file that opening a path returned, if it says which
-- bytes remain; and how far it was read to find that, of a file that is searched as it is
abbrev pub IsFoundAt : {F G : Type 0} → (List ℕ → Result F Error → Type 0)
    → (F → Option (List ℕ)) → MatcherFacts G → Settings → Option (List ℕ) → Bool → Type 0
IsFoundAt {F} opens remaining matcher settings path found =
    (file read : F) × OpensAt opens path (Ok file)
    × ((input : List ℕ) → remaining file ≡ Some input
    → (found ≡ has_selected settings matcher.meaning (searched_bytes settings input))
    × IsReadToMatch settings matcher.meaning input (remaining read))

-- the counts of several, together, or the largest `u64` if that is less
abbrev pub IsTotal : {F G P : Type 0} → (List ℕ → Result F Error → Type 0)
    → (F → Option (List ℕ)) → MatcherFacts G → Settings → (P → Option (List ℕ)) → List P → ℕ
    → Type 0
IsTotal opens remaining matcher settings text paths total = (counts : List ℕ)
    × AllZip (λ path count. IsCountAt opens remaining matcher settings (text path) count)
    paths counts × (total ≡ min (sum counts) (2 ^ 64 - 1))

-- a searcher has the settings that it had, and its buffers if it had them
abbrev pub IsKept : SearcherState → SearcherState → Type 0
IsKept old new =
    (new.settings ≡ old.settings) × (old.has_buffers ≡ true → new.has_buffers ≡ true)
