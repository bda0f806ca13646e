-- What sets of bytes decide of the first match.
use Rattle.std.specs.Prelude.{◌≡◌, ◌≢◌, drop, ℕ, ◌+◌, ◌<◌, ◌≤◌}
use Rattle.std.specs.Prelude.{Bool, true, false, List, Option, Some}
use Rattle.grep_regex.specs.Classes.{decision}
use Rattle.grep_regex.specs.declared.classes.Start.{Start}
use Rattle.grep_regex.specs.declared.classes.Start.TheVariants.{Match, From, Nowhere}
use Rattle.grep_regex.specs.declared.classes.Verdict.{Verdict}
use Rattle.grep_regex.specs.declared.classes.Verdict.TheVariants.{Matches, Passes, Unknown}

-- from a position up to another it is decided that there is no match
abbrev pub IsPassed : (ℕ → Option Bool) → ℕ → ℕ → Type 0
IsPassed decided from to = (i : ℕ) → from ≤ i → i < to → decided i ≡ Some false

-- the sets from the one with this index on don't decide that there is no match
abbrev pub MayMatch : List (List Bool) → ℕ → List ℕ → ℕ → Type 0
MayMatch sets index hay i = decision (drop index sets) hay i ≢ Some false

-- what is decided of a position: that there is a match, or none before a later one
abbrev pub IsVerdict : (ℕ → Option Bool) → ℕ → Verdict → Type 0
IsVerdict decided i Matches = decided i ≡ Some true
IsVerdict decided i (Passes next) = (i < next) × IsPassed decided i next
IsVerdict decided i Unknown = Unit {0}

-- where the first match starts in as many bytes, as far as it is decided
abbrev pub IsStart : (ℕ → Option Bool) → ℕ → ℕ → Start → Type 0
IsStart decided size start (Match i) =
    (start ≤ i) × (i ≤ size) × IsPassed decided start i × (decided i ≡ Some true)
IsStart decided size start (From i) = (start ≤ i) × (i ≤ size) × IsPassed decided start i
IsStart decided size start Nowhere = IsPassed decided start (size + 1)
