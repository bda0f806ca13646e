-- A handler that keeps the line that has most by a measure: the first of these.
use Rattle.std.specs.Prelude.{◌≡◌, ◌<◌, ◌≤◌, ℕ, nat_lt, Bool, true, if◌then◌else◌, All, List, []}
use Rattle.std.specs.Prelude.{◌∷◌, ◌++◌, Option, None, Some}
use Rattle.grep_matcher.specs.Meanings.{Meaning}
use Rattle.grep_definitions.specs.Plans.{Call, Settings}
use Rattle.grep_searcher.specs.HitLines.{hit_matches, kept_hits}
use Rattle.grep_searcher.specs.MatchHandlers.{KeptReport, kept_of}
use Rattle.grep_searcher.specs.SinkFolds.{fold_while}

-- the first of those of some items that have most by a measure, or none of no items: none has more,
-- and each before it has less
abbrev pub IsFirstMost : {X : Type 0} → (X → ℕ) → List X → Option X → Type 0
IsFirstMost measure items None = items ≡ []
IsFirstMost {X} measure items (Some most) =
    All (λ item. measure item ≤ measure most) items × (before later : List X)
    × (items ≡ before ++ most ∷ later)
    × All (λ item. measure item < measure most) before

-- that of the items so far, with one more
abbrev pub with_more : {X : Type 0} → (X → ℕ) → Option X → X → Option X
with_more measure None item = Some item
with_more measure (Some most) item =
    if nat_lt (measure most) (measure item) then Some item else Some most

module _ {H : Type 0} (goes : H → Call → Bool) (next : H → Call → H) where
  -- each match lets the search go on, and is kept if it has more than what was kept
  abbrev pub KeepsMost : (H → Option KeptReport) → (KeptReport → ℕ) → Type 0
  KeepsMost kept measure =
      (old : H) (call : Call)
      → (goes old call ≡ true)
      × (kept (next old call) ≡ with_more measure (kept old) (kept_of call))

  -- then a handler that had kept none has kept, after the lines that hit, the first of those that
  -- have most
  abbrev pub HitsKeepMost : Type 0
  HitsKeepMost =
      (kept : H → Option KeptReport) (measure : KeptReport → ℕ) → KeepsMost kept measure
      → (settings : Settings) (meaning : Meaning) (bytes : List ℕ) (old : H) → kept old ≡ None
      → IsFirstMost measure (kept_hits settings meaning bytes)
      (kept (fold_while goes next old (hit_matches settings meaning bytes)))
