-- Which lines a search by line selects and reports as matches: those that hit.
use Rattle.std.specs.Prelude.{◌≡◌, ◌⊎◌, ℕ, ◌<◌, Bool, true, false, List, All, count_by, filter, map}
use Rattle.std.specs.Prelude.{take, not, Option, is_some, None, Some}
use Rattle.std.specs.List.{list_all, list_any, range_with_len}
use Rattle.grep_matcher.specs.Lines.{byte_of, lines, strip}
use Rattle.grep_matcher.specs.Meanings.{Meaning}
use Rattle.grep_definitions.specs.Plans.{is_across, search_plan, Call, reported_bytes, line}
use Rattle.grep_definitions.specs.Plans.{line_count, hits_if, is_selected, some_below, Settings}
use Rattle.grep_definitions.specs.SearchLaws.{is_matched, match_calls, match_of}
use Rattle.grep_searcher.specs.LineCounts.{matched_count}
use Rattle.grep_searcher.specs.MatchHandlers.{KeptReport, kept_of}

-- a line hits if whether it matches without its terminator differs from inversion
abbrev pub is_hit : Settings → Meaning → List ℕ → Bool
is_hit settings meaning line =
    hits_if settings (is_some (meaning.first (strip settings.line_terminator line)))

-- no limit is set, and no stop at the next line that isn't selected
pub record IsUnlimited (settings : Settings) : Type 0 where
  pub unlimited : settings.max_matches ≡ None
  pub unstopped : settings.stop_on_nonmatch ≡ false

-- then a line is selected exactly if it hits, and matched exactly if it hits
abbrev pub HitsAreSelected : Type 0
HitsAreSelected =
    (settings : Settings) (meaning : Meaning) (bytes : List ℕ) (i : ℕ) → IsUnlimited settings
    → i < line_count settings bytes
    → is_selected settings meaning bytes i ≡ is_hit settings meaning (line settings bytes i)

abbrev pub HitsAreMatched : Type 0
HitsAreMatched =
    (settings : Settings) (meaning : Meaning) (bytes : List ℕ) (i : ℕ) → IsUnlimited settings
    → i < line_count settings bytes
    → is_matched settings meaning bytes i ≡ is_hit settings meaning (line settings bytes i)

-- so a line is selected exactly if some line hits
abbrev pub HitsAreFound : Type 0
HitsAreFound =
    (settings : Settings) (meaning : Meaning) (bytes : List ℕ) → IsUnlimited settings
    → some_below (is_selected settings meaning bytes) (line_count settings bytes)
    ≡ list_any (is_hit settings meaning) (lines (byte_of settings.line_terminator) bytes)

-- and under inversion none is selected exactly if each line matches without its terminator
abbrev pub NoneIsSelected : Type 0
NoneIsSelected =
    (settings : Settings) (meaning : Meaning) (bytes : List ℕ) → IsUnlimited settings
    → settings.invert_match ≡ true
    → not (some_below (is_selected settings meaning bytes) (line_count settings bytes))
    ≡ list_all (λ line. is_some (meaning.first (strip settings.line_terminator line)))
    (lines (byte_of settings.line_terminator) bytes)

-- and as many lines are matched as hit
abbrev pub HitsAreCounted : Type 0
HitsAreCounted =
    (settings : Settings) (meaning : Meaning) (bytes : List ℕ) → IsUnlimited settings
    → matched_count settings meaning bytes
    ≡ count_by (is_hit settings meaning) (lines (byte_of settings.line_terminator) bytes)

-- without inversion, of a matcher that has a match exactly where a predicate holds: as many lines
-- are matched as there are lines of which, without their terminators, it holds
abbrev pub PredicatesAreCounted : Type 0
PredicatesAreCounted =
    (settings : Settings) (meaning : Meaning) (bytes : List ℕ) (holds : List ℕ → Bool)
    → IsUnlimited settings → settings.invert_match ≡ false
    → ((line : List ℕ) → is_some (meaning.first line) ≡ holds line)
    → matched_count settings meaning bytes
    ≡ count_by (λ line. holds (strip settings.line_terminator line))
    (lines (byte_of settings.line_terminator) bytes)

-- ---- the matches that are reported

-- the first items, as many as a limit has, or all
abbrev pub items_up_to : {X : Type 0} → Option ℕ → List X → List X
items_up_to None items = items
items_up_to (Some limit) items = take limit items

-- all lines in order, each as a match: with its number, its offset and its bytes
abbrev pub lines_as_matches : Settings → List ℕ → List Call
lines_as_matches settings bytes =
    map (match_of settings bytes) (range_with_len 0 (line_count settings bytes))

-- their bytes are the lines
abbrev pub LinesAreListed : Type 0
LinesAreListed =
    (settings : Settings) (bytes : List ℕ)
    → map reported_bytes (lines_as_matches settings bytes)
    ≡ lines (byte_of settings.line_terminator) bytes

-- those of them that hit; under a limit the first of these
abbrev pub hit_matches : Settings → Meaning → List ℕ → List Call
hit_matches settings meaning bytes =
    items_up_to settings.max_matches
    (filter (λ found. is_hit settings meaning (reported_bytes found))
    (lines_as_matches settings bytes))

-- what is kept of these
abbrev pub kept_hits : Settings → Meaning → List ℕ → List KeptReport
kept_hits settings meaning bytes = map kept_of (hit_matches settings meaning bytes)

-- no stop is set, and no line is trailing: there is no limit, or no context after a match
pub record IsFilter (settings : Settings) : Type 0 where
  pub unstopped : settings.stop_on_nonmatch ≡ false
  pub untrailed : (settings.max_matches ≡ None) ⊎ (settings.after_context ≡ 0)

-- then the matches that are reported are the lines that hit, in order
abbrev pub LinesAreFiltered : Type 0
LinesAreFiltered =
    (settings : Settings) (meaning : Meaning) (bytes : List ℕ) → is_across settings meaning ≡ false
    → IsFilter settings
    → match_calls (search_plan settings meaning bytes).calls ≡ hit_matches settings meaning bytes

-- the bytes of all lines are the lines, so these are the lines that hit
abbrev pub hit_lines : Settings → Meaning → List ℕ → List (List ℕ)
hit_lines settings meaning bytes =
    items_up_to settings.max_matches
    (filter (is_hit settings meaning) (lines (byte_of settings.line_terminator) bytes))

abbrev pub HitsAreLines : Type 0
HitsAreLines =
    (settings : Settings) (meaning : Meaning) (bytes : List ℕ)
    → map reported_bytes (hit_matches settings meaning bytes) ≡ hit_lines settings meaning bytes

-- without inversion, of a matcher that has a match exactly where a predicate holds, they are the
-- lines of which it holds without their terminators
abbrev pub PredicatesAreFiltered : Type 0
PredicatesAreFiltered =
    (settings : Settings) (meaning : Meaning) (bytes : List ℕ) (holds : List ℕ → Bool)
    → settings.invert_match ≡ false
    → ((line : List ℕ) → is_some (meaning.first line) ≡ holds line)
    → hit_matches settings meaning bytes
    ≡ items_up_to settings.max_matches
    (filter (λ found. holds (strip settings.line_terminator (reported_bytes found)))
    (lines_as_matches settings bytes))

abbrev pub PredicatesAreLines : Type 0
PredicatesAreLines =
    (settings : Settings) (meaning : Meaning) (bytes : List ℕ) (holds : List ℕ → Bool)
    → settings.invert_match ≡ false
    → ((line : List ℕ) → is_some (meaning.first line) ≡ holds line)
    → map reported_bytes (hit_matches settings meaning bytes)
    ≡ items_up_to settings.max_matches
    (filter (λ line. holds (strip settings.line_terminator line))
    (lines (byte_of settings.line_terminator) bytes))

-- whatever is set, each line that is reported as a match hits: without inversion it has a match
-- without its terminator
abbrev pub MatchedLinesHit : Type 0
MatchedLinesHit =
    (settings : Settings) (meaning : Meaning) (bytes : List ℕ) → is_across settings meaning ≡ false
    → All (λ found. is_hit settings meaning (reported_bytes found) ≡ true)
    (match_calls (search_plan settings meaning bytes).calls)

abbrev pub MatchedLinesMatch : Type 0
MatchedLinesMatch =
    (settings : Settings) (meaning : Meaning) (bytes : List ℕ) → is_across settings meaning ≡ false
    → settings.invert_match ≡ false
    → All (λ found. is_some (meaning.first (strip settings.line_terminator (reported_bytes found)))
    ≡ true) (match_calls (search_plan settings meaning bytes).calls)
