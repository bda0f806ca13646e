-- A handler that counts matches by a key, such as the first byte of each.
use Rattle.std.specs.Prelude.{◌≡◌, ℕ, ◌+◌, ◌-◌, ◌<◌, ◌^◌, min, nat_eq, Bool, true, false, List}
use Rattle.std.specs.Prelude.{replicate, count_by, slice_index_or, slice_set, Option, None, Some, Ok}
use Rattle.std.specs.Option.{option_eq}
use Rattle.grep_matcher.specs.Meanings.{Meaning}
use Rattle.grep_definitions.specs.Plans.{Call, is_across, IsRun, search_plan, Settings}
use Rattle.grep_definitions.specs.SearchLaws.{match_calls}
use Rattle.grep_searcher.specs.HitLines.{hit_matches, IsFilter}
use Rattle.grep_searcher.specs.MatchHandlers.{IsHandlerStep}

-- one more at the index of a key, up to the largest number; without a key nothing changes
abbrev pub with_key : List ℕ → Option ℕ → List ℕ
with_key counts None = counts
with_key counts (Some key) =
    slice_set counts key (min (slice_index_or counts key 0 + 1) (2 ^ 64 - 1))

-- at each index below a number is how many of some calls have it as their key
abbrev pub AreKeyCounts : ℕ → (Call → Option ℕ) → List Call → List ℕ → Type 0
AreKeyCounts end key calls counts =
    (i : ℕ) → i < end
    → slice_index_or counts i 0 ≡ count_by (λ call. option_eq nat_eq (key call) (Some i)) calls

module _ {H E : Type 0} (goes : H → Call → Bool) (next : H → Call → H)
    (fails : H → Call → E → H → Type 0) where
  -- each match lets the search go on, and is counted at its key
  abbrev pub CountsKeys : (H → List ℕ) → (Call → Option ℕ) → Type 0
  CountsKeys counts key =
      (old : H) (call : Call)
      → (goes old call ≡ true) × (counts (next old call) ≡ with_key (counts old) (key call))

  -- then a run that ended in `Ok` made of zeros the counts of the matches that are reported
  abbrev pub RunsCountKeys : Type 0
  RunsCountKeys =
      (counts : H → List ℕ) (key : Call → Option ℕ) → CountsKeys counts key
      → (settings : Settings) (meaning : Meaning) (bytes : List ℕ) (end : ℕ) (old new : H)
      → counts old ≡ replicate end 0
      → IsRun (IsHandlerStep goes next fails) settings old (search_plan settings meaning bytes)
      (Ok tt) new
      → AreKeyCounts end key (match_calls (search_plan settings meaning bytes).calls) (counts new)

  -- by line, without a stop and without a context after a limit, those of the lines that hit
  abbrev pub RunsCountHitKeys : Type 0
  RunsCountHitKeys =
      (counts : H → List ℕ) (key : Call → Option ℕ) → CountsKeys counts key
      → (settings : Settings) (meaning : Meaning) (bytes : List ℕ)
      → is_across settings meaning ≡ false → IsFilter settings
      → (end : ℕ) (old new : H) → counts old ≡ replicate end 0
      → IsRun (IsHandlerStep goes next fails) settings old (search_plan settings meaning bytes)
      (Ok tt) new
      → AreKeyCounts end key (hit_matches settings meaning bytes) (counts new)
