-- Patterns whose matches the first bytes decide: a byte of each of some sets, one after another.
use Rattle.std.specs.Prelude.{◌≡◌, ℕ, ◌+◌, ◌<◌, Bool, true, false, if◌then◌else◌, nat_lt, List}
use Rattle.std.specs.Prelude.{[], ◌∷◌}
use Rattle.std.specs.Prelude.{length, option_map, Option, None, Some, slice_get, zero, suc, ◌++◌}
use Rattle.regex_class.specs.Ranges.{in_ranges}
use Rattle.regex_hir.specs.Matches.{Matches}
use Rattle.regex_hir.specs.Meaning.{alt_all}
use Rattle.regex_hir.specs.Re.{Re, accept, attempt}
use Rattle.grep_matcher.specs.ByteSets.{holds}

-- what a set decides of a byte, by what is decided of the bytes after it: nothing if it isn't ASCII
abbrev pub decision_by : List Bool → Option Bool → Option ℕ → Option Bool
decision_by set after None = Some false
decision_by set after (Some byte) =
    if nat_lt byte 128 then (if holds set byte then after else Some false) else None

-- whether a byte of each set follows from a position on; undecided where a byte
-- that isn't ASCII comes first
abbrev pub decision : List (List Bool) → List ℕ → ℕ → Option Bool
decision [] hay i = Some true
decision (set ∷ sets) hay i = decision_by set (decision sets hay (i + 1)) (slice_get hay i)

-- the ASCII members of the class are those of the set
abbrev pub IsAsciiOf : List (ℕ × ℕ) → List Bool → Type 0
IsAsciiOf ranges set = (byte : ℕ) → byte < 128 → holds set byte ≡ in_ranges ranges byte

-- each set has one of the bytes alone
abbrev pub AreBytes : List ℕ → List (List Bool) → Type 0
AreBytes [] [] = Unit {0}
AreBytes [] (set ∷ sets) = ⊥
AreBytes (b ∷ bytes) [] = ⊥
AreBytes (b ∷ bytes) (set ∷ sets) = IsAsciiOf ((b, b) ∷ []) set × AreBytes bytes sets

-- where that is decided, the pattern matches a byte of each set, and nothing else
pub record IsRun (re : Re) (sets : List (List Bool)) : Type 0 where
  pub yes : (hay : List ℕ) (i : ℕ) → decision sets hay i ≡ Some true
      → Matches hay re i (i + length sets)
  pub only : (hay : List ℕ) (i j : ℕ) → decision sets hay i ≡ Some true → Matches hay re i j
      → j ≡ i + length sets
  pub no : (hay : List ℕ) (i j : ℕ) → decision sets hay i ≡ Some false → Matches hay re i j → ⊥

-- where that is decided, the pattern matches or it doesn't
pub record Decides (re : Re) (sets : List (List Bool)) : Type 0 where
  pub yes : (hay : List ℕ) (i : ℕ) → decision sets hay i ≡ Some true → (j : ℕ) × Matches hay re i j
  pub no : (hay : List ℕ) (i j : ℕ) → decision sets hay i ≡ Some false → Matches hay re i j → ⊥

-- what is decided where one of two has to follow
abbrev pub either_decision : Option Bool → Option Bool → Option Bool
either_decision (Some true) other = Some true
either_decision (Some false) other = other
either_decision None (Some true) = Some true
either_decision None (Some false) = None
either_decision None None = None

-- whether one of several sequences of sets follows from a position on
abbrev pub any_decision : List (List (List Bool)) → List ℕ → ℕ → Option Bool
any_decision [] hay i = Some false
any_decision (sets ∷ more) hay i = either_decision (decision sets hay i) (any_decision more hay i)

-- where that is decided, the pattern matches or it doesn't
pub record DecideAny (re : Re) (choices : List (List (List Bool))) : Type 0 where
  pub yes : (hay : List ℕ) (i : ℕ) → any_decision choices hay i ≡ Some true
      → (j : ℕ) × Matches hay re i j
  pub no : (hay : List ℕ) (i j : ℕ) → any_decision choices hay i ≡ Some false
      → Matches hay re i j → ⊥

-- the size of a sequence that follows, or what comes later if it doesn't
abbrev pub size_by : ℕ → Option ℕ → Option Bool → Option ℕ
size_by size later (Some true) = Some size
size_by size later (Some false) = later
size_by size later None = None

-- the size of the first sequence that follows, if it is decided that those before it don't
abbrev pub first_size : List (List (List Bool)) → List ℕ → ℕ → Option ℕ
first_size [] hay i = None
first_size (sets ∷ more) hay i = size_by (length sets) (first_size more hay i) (decision sets hay i)

-- a match has the size of the first sequence that follows
pub record HasSizes (re : Re) (choices : List (List (List Bool))) : Type 0 where
  pub end : (hay : List ℕ) (i size : ℕ) → first_size choices hay i ≡ Some size
      → option_map (λ t. t.end) (attempt hay re accept i) ≡ Some (i + size)

-- the sequences decide, and if the flag says so matches have their sizes
pub record IsPrefix (re : Re) (choices : List (List (List Bool))) (has_sizes : Bool) : Type 0 where
  pub decides : DecideAny re choices
  pub sizes : has_sizes ≡ true → HasSizes re choices

-- each pattern is a run of its sequence
abbrev pub AreRuns : List Re → List (List (List Bool)) → Type 0
AreRuns [] [] = Unit {0}
AreRuns [] (sets ∷ more) = ⊥
AreRuns (re ∷ res) [] = ⊥
AreRuns (re ∷ res) (sets ∷ more) = IsRun re sets × AreRuns res more

-- the pattern has alternatives, each of which is a run of its sequence
pub record HasRuns (re : Re) (choices : List (List (List Bool))) : Type 0 where
  pub res : List Re
  pub is : re ≡ alt_all res
  pub runs : AreRuns res choices

-- the sets, as often as a number says
abbrev pub repeated : ℕ → List (List Bool) → List (List Bool)
repeated zero sets = []
repeated (suc n) sets = sets ++ repeated n sets

-- the sets are those of a run, as often as a number says
pub record IsRepeated (re : Re) (times : ℕ) (sets : List (List Bool)) : Type 0 where
  pub one : List (List Bool)
  pub run : IsRun re one
  pub is : sets ≡ repeated times one

-- one set has the ASCII members of the class
abbrev pub IsClassSet : List (ℕ × ℕ) → List (List Bool) → Type 0
IsClassSet ranges [] = ⊥
IsClassSet ranges (set ∷ []) = IsAsciiOf ranges set
IsClassSet ranges (set ∷ (other ∷ sets)) = ⊥
