-- The matches of a search across lines are units: runs of selected lines, each with all its lines.
use Rattle.std.specs.Prelude.{◌≡◌, ℕ, ◌≤◌, Bool, true, not, ◌&&◌, if◌then◌else◌, List, [], ◌∷◌}
use Rattle.std.specs.Prelude.{length, map, slice_get, slice_range}
use Rattle.std.specs.Option.{option_map}
use Rattle.grep_matcher.specs.Meanings.{Meaning}
use Rattle.grep_definitions.specs.Plans.{is_across, search_plan, Call, matches, count_below}
use Rattle.grep_definitions.specs.Plans.{first_below, joined_from, line_count, report_end, start}
use Rattle.grep_definitions.specs.Plans.{is_touched_selected, touched_lines, Settings, continues}
use Rattle.grep_report.specs.SinkReports.{surroundings}
use Rattle.grep_definitions.specs.SearchLaws.{match_calls, number_of}

module _ (settings : Settings) (meaning : Meaning) (bytes : List ℕ) where
  -- a unit begins at a selected line that isn't in one report with the line before it
  abbrev pub begins_unit : ℕ → Bool
  begins_unit i = is_touched_selected settings meaning bytes i
      && not (continues settings bytes (touched_lines settings meaning bytes) i)

  -- the lines at which units begin, in order
  abbrev pub unit_lines : List ℕ
  unit_lines =
      joined_from (λ i. if begins_unit i then i ∷ [] else []) 0 (line_count settings bytes)

  -- where the unit that begins at line i ends, and its bytes
  abbrev pub unit_end : ℕ → ℕ
  unit_end i =
      start settings bytes (report_end settings bytes (touched_lines settings meaning bytes) i)

  abbrev pub unit_bytes : ℕ → List ℕ
  unit_bytes i = slice_range bytes (start settings bytes i) (unit_end i)

  -- the call that reports it, as a range of all bytes
  abbrev pub unit_of : ℕ → Call
  unit_of i = matches (number_of settings i) (start settings bytes i) (unit_bytes i)
      (surroundings bytes (start settings bytes i) (unit_end i))

-- across lines the matches that are reported are the units, in order
abbrev pub MatchesAreUnits : Type 0
MatchesAreUnits =
    (settings : Settings) (meaning : Meaning) (bytes : List ℕ) → is_across settings meaning ≡ true
    → match_calls (search_plan settings meaning bytes).calls
    ≡ map (unit_of settings meaning bytes) (unit_lines settings meaning bytes)

-- as many as there are of them
abbrev pub UnitsAreCounted : Type 0
UnitsAreCounted =
    (settings : Settings) (meaning : Meaning) (bytes : List ℕ) → is_across settings meaning ≡ true
    → length (match_calls (search_plan settings meaning bytes).calls)
    ≡ count_below (begins_unit settings meaning bytes) (line_count settings bytes)

-- the first of them begins at the first selected line
abbrev pub FirstMatchIsFirstUnit : Type 0
FirstMatchIsFirstUnit =
    (settings : Settings) (meaning : Meaning) (bytes : List ℕ) → is_across settings meaning ≡ true
    → slice_get (match_calls (search_plan settings meaning bytes).calls) 0
    ≡ option_map (unit_of settings meaning bytes)
    (first_below (is_touched_selected settings meaning bytes) (line_count settings bytes))

-- by line and across lines there are at most as many matches as the byte count has, if each call
-- returns true, and at most as many as bytes
abbrev pub MatchesAreWithinCount : Type 0
MatchesAreWithinCount =
    (settings : Settings) (meaning : Meaning) (bytes : List ℕ)
    → (length (match_calls (search_plan settings meaning bytes).calls)
    ≤ (search_plan settings meaning bytes).finish.count)
    × ((search_plan settings meaning bytes).finish.count ≤ length bytes)
