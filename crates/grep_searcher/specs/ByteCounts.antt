-- How many bytes `finish` counts of a search by line under a limit.
use Rattle.std.specs.Prelude.{◌≡◌, ℕ, zero, suc, false, List, length, Some, slice_get}
use Rattle.std.specs.Option.{option_map, unwrap_or}
use Rattle.grep_matcher.specs.Meanings.{Meaning}
use Rattle.grep_definitions.specs.Plans.{Call, is_across, search_plan, Settings}
use Rattle.grep_definitions.specs.SearchLaws.{reported_to}
use Rattle.grep_searcher.specs.HitLines.{hit_matches}

-- there is this limit, and no stop, no context after a match and no `passthru`
pub record IsLimited (settings : Settings) (limit : ℕ) : Type 0 where
  pub limited : settings.max_matches ≡ Some limit
  pub unstopped : settings.stop_on_nonmatch ≡ false
  pub untrailed : settings.after_context ≡ 0
  pub selective : settings.passthru ≡ false

-- where the n-th of some matches ends: for n = 0 at the start, and at the end of all bytes if there
-- are fewer
abbrev pub end_of_nth : List Call → ℕ → ℕ → ℕ
end_of_nth found all zero = 0
end_of_nth found all (suc i) = unwrap_or (option_map reported_to (slice_get found i)) all

-- then all bytes count if fewer lines hit than the limit has, and else those up to the end of the
-- one that fills it
abbrev pub CountsToLimit : Type 0
CountsToLimit =
    (settings : Settings) (meaning : Meaning) (bytes : List ℕ) (limit : ℕ)
    → is_across settings meaning ≡ false → IsLimited settings limit
    → (search_plan settings meaning bytes).finish.count
    ≡ end_of_nth (hit_matches settings meaning bytes) (length bytes) limit
