-- What a walk from line to line knows of the lines before it, by the definition of the calls. The
-- contracts of private functions cite these definitions; no public contract does.
use Rattle.std.specs.Prelude.{◌≡◌, ℕ, ◌+◌, ◌-◌, ◌<◌, ◌≤◌, true, false, ◌&&◌, nat_lt, nat_le, List}
use Rattle.std.specs.Prelude.{Some}
use Rattle.grep_matcher.specs.Meanings.{Meaning}
use Rattle.grep_definitions.specs.Plans.{Settings, some_below, count_below, first_below, has_room}
use Rattle.grep_definitions.specs.Plans.{Selection, follows_selected, is_reported, hits, is_open_at}
use Rattle.grep_definitions.specs.Plans.{is_chosen, ends_search, fills_limit}

module _ (settings : Settings) (bytes : List ℕ) (selection : Selection) where
  -- what a walk at line i knows of the lines before it, if it is done with those up to v, and
  -- `left` lines are still to be reported after a match: the lines after v aren't selected and
  -- follow no selected line
  pub record IsNear (v i left : ℕ) : Type 0 where
    pub low : v ≤ i
    pub few : left ≤ settings.after_context
    pub close : 0 < left → v ≡ i
    pub window : (x : ℕ) → i ≤ x
        → some_below (λ j. nat_le (x - j) settings.after_context && selection.selected j) i
        ≡ nat_lt (x - i) left
    pub passed : (j : ℕ) → v ≤ j → j < i
        → (selection.selected j ≡ false) × (follows_selected settings bytes selection j ≡ false)
    pub shown : 0 < v → is_reported settings bytes selection (v - 1) ≡ true
    pub bare : settings.passthru ≡ true → v ≡ i

module _ (settings : Settings) (meaning : Meaning) (bytes : List ℕ) where
  -- what a walk that goes on at line i knows of limit and stop, if c lines were chosen and `left`
  -- lines are still to be reported after a match
  pub record IsOpen (i left c : ℕ) : Type 0 where
    pub below : is_open_at settings meaning bytes i ≡ has_room settings c
    pub counted : has_room settings c ≡ true → count_below (hits settings meaning bytes) i ≡ c
    pub any : some_below (is_chosen settings meaning bytes) i ≡ nat_lt 0 c
    pub unended : some_below (ends_search settings meaning bytes) i ≡ false
    pub unfilled : has_room settings c ≡ true
        → some_below (fills_limit settings meaning bytes) i ≡ false
    pub filled : settings.passthru ≡ false → has_room settings c ≡ false
        → (m : ℕ) × (first_below (fills_limit settings meaning bytes) i ≡ Some m)
        × (m + settings.after_context + 1 ≡ i + left) × (0 < left)
