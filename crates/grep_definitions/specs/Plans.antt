-- The plan of a search: the calls that it makes of its sink, by its settings, by what its matcher
-- means and by the bytes. Lines are counted from 0 here, and the numbers that are reported from 1.
use Rattle.std.specs.Prelude.{◌≡◌, ◌≢◌, ◌⊎◌, ℕ, zero, suc, ◌+◌, ◌-◌, ◌<◌, ◌≤◌, ◌==◌, nat_lt, nat_le}
use Rattle.std.specs.Prelude.{min, Bool, true, false, not, ◌&&◌, ◌||◌, if◌then◌else◌, List, [], ◌∷◌}
use Rattle.std.specs.Prelude.{◌++◌, length, take, drop, filter, count_by, slice_index_or}
use Rattle.std.specs.Prelude.{slice_range, Option, None, Some, is_some, Result, Ok, Err}
use Rattle.std.specs.List.{list_any}
use Rattle.std.specs.Option.{option_map, unwrap_or}
use Rattle.grep_decode.specs.declared.label.Label.{Label}
use Rattle.grep_lines.specs.Blocks.{block_start, block_end}
use Rattle.grep_matcher.specs.declared.line_terminator.LineTerminator.{LineTerminator}
use Rattle.grep_matcher.specs.declared.line_terminator.LineTerminator.TheVariants.{Byte, Crlf}
use Rattle.grep_matcher.specs.Lines.{byte_of, line_start, lines, strip}
use Rattle.grep_matcher.specs.Meanings.{ExcludesTerminator, MatcherFacts, Meaning}
use Rattle.grep_report.specs.declared.binary_detection.BinaryDetection.{BinaryDetection}
use Rattle.grep_report.specs.declared.config_error.ConfigError.{ConfigError}
use Rattle.grep_report.specs.declared.config_error.ConfigError.TheVariants.{
  SearchUnavailable,
  MismatchedLineTerminators,
}
use Rattle.grep_report.specs.declared.mmap_choice.MmapChoice.{MmapChoice}
use Rattle.grep_report.specs.SinkReports.{Surroundings, no_surroundings, surroundings}
use Rattle.grep_report.specs.declared.sink_context.SinkContextKind.{SinkContextKind}
use Rattle.grep_report.specs.declared.sink_context.SinkContextKind.TheVariants.{Before, After}
use Rattle.grep_report.specs.declared.sink_context.SinkContextKind.TheVariants.{Other}

-- all settings, of a builder or of a searcher: of a searcher both contexts are 0 under passthru
pub record Settings : Type 0 where
  pub line_terminator : LineTerminator
  pub invert_match : Bool
  pub line_number : Bool
  pub multi_line : Bool
  pub after_context : ℕ
  pub before_context : ℕ
  pub passthru : Bool
  pub heap_limit : Option ℕ
  pub memory_map : MmapChoice
  pub binary_detection : BinaryDetection
  pub encoding : Option Label
  pub bom_sniffing : Bool
  pub stop_on_nonmatch : Bool
  pub max_matches : Option ℕ

-- what contracts see of a searcher. One that is lent to a sink during a search of a reader has no
-- buffers, and neither has a clone of it, until it is first searched with
pub record SearcherState : Type 0 where
  pub settings : Settings
  pub has_buffers : Bool

-- ---- calls of a sink, and a run along a plan

-- one call: of lines with number, offset and bytes, and of a match with the bytes around it, which
-- by line are none; with the offset of the first binary byte; of `finish` with the byte count, and
-- that offset if it was reported
pub data Call : Type 0 where
  begins : Call
  matches : Option ℕ → ℕ → List ℕ → Surroundings → Call
  context : SinkContextKind → Option ℕ → ℕ → List ℕ → Call
  breaks : Call
  binary_data : ℕ → Call
  finishes : ℕ → Option ℕ → Call

-- the bytes of the lines that a call reports, and the offset of the first; other calls have none
abbrev pub reported_bytes : Call → List ℕ
reported_bytes (matches number offset bytes around) = bytes
reported_bytes (context kind number offset bytes) = bytes
reported_bytes _ = []

abbrev pub reported_from : Call → ℕ
reported_from (matches number offset bytes around) = offset
reported_from (context kind number offset bytes) = offset
reported_from _ = 0

abbrev pub is_break : Call → Bool
is_break breaks = true
is_break _ = false

abbrev pub is_binary_data : Call → Bool
is_binary_data (binary_data offset) = true
is_binary_data _ = false

-- what `finish` has: the byte count, and the offset of the first binary byte if it was reported
pub record Finish : Type 0 where
  pub count : ℕ
  pub binary : Option ℕ

abbrev pub counted : ℕ → Finish
counted count = record { count = count; binary = None }

-- a call, and what `finish` has if the call returns false
pub record Planned : Type 0 where
  pub call : Call
  pub if_false : Finish

abbrev pub planned : Call → ℕ → Planned
planned call count = record { call = call; if_false = counted count }

-- the calls before the last, and what `finish` has if each of them returns true
pub record Plan : Type 0 where
  pub calls : List Planned
  pub finish : Finish

-- the calls of which that count is at most an offset
abbrev pub through : ℕ → List Planned → List Planned
through offset calls = filter (λ call. nat_le call.if_false.count offset) calls

-- a sink's meaning: state before, settings, call, what the call returned, state after
abbrev pub Steps : Type 0 → Type 0 → Type 1
Steps S E = S → Settings → Call → Result Bool E → S → Type 0

-- what `finish` returned, as the result of any other call
abbrev pub finish_result : {E : Type 0} → Result (Unit {0}) E → Result Bool E
finish_result (Ok u) = Ok true
finish_result (Err e) = Err e

-- what came of some calls: each returned true, or one returned false, or one failed
pub data Outcome (E : Type 0) : Type 0 where
  all_true : Outcome E
  stopped : Finish → Outcome E
  failed : E → Outcome E

abbrev pub finish_after : {E : Type 0} → Outcome E → Finish → Finish
finish_after (stopped if_false) finish = if_false
finish_after _ finish = finish

module _ {S E : Type 0} (step : Steps S E) (settings : Settings) where
  -- the calls are made in order, up to the first that doesn't return true
  abbrev pub AreMade : S → List Planned → Outcome E → S → Type 0
  AreMade old [] outcome new = (outcome ≡ all_true) × (new ≡ old)
  AreMade old (planned ∷ later) outcome new =
      ((mid : S) × step old settings planned.call (Ok true) mid × AreMade mid later outcome new)
      ⊎ (((outcome ≡ stopped planned.if_false) × step old settings planned.call (Ok false) new)
      ⊎ ((e : E) × (outcome ≡ failed e) × step old settings planned.call (Err e) new))

  -- `finish` follows, but for an error, which nothing follows
  abbrev pub IsFinished : Outcome E → S → Finish → Result (Unit {0}) E → S → Type 0
  IsFinished all_true old finish result new =
      step old settings (finishes finish.count finish.binary) (finish_result result) new
  IsFinished (stopped if_false) old finish result new =
      step old settings (finishes if_false.count if_false.binary) (finish_result result) new
  IsFinished (failed e) old finish result new = (result ≡ Err e) × (new ≡ old)

  -- a run along a plan
  pub record IsRun (old : S) (plan : Plan) (result : Result (Unit {0}) E) (new : S) : Type 0 where
    pub outcome : Outcome E
    pub mid : S
    pub made : AreMade old plan.calls outcome mid
    pub finished : IsFinished outcome mid plan.finish result new

-- no step fails of those that are made when the sink may be called
abbrev pub NeverFails : {S E : Type 0} → Steps S E → (S → Type 0) → Type 0
NeverFails {S} {E} step may_call = (old : S) (settings : Settings) (call : Call) (e : E) (new : S)
    → may_call old → step old settings call (Err e) new → ⊥

-- ---- how lines are reported, given which of them are selected

-- of the numbers below n: whether some pass, how many do, and which is the first
abbrev pub some_below : (ℕ → Bool) → ℕ → Bool
some_below p zero = false
some_below p (suc n) = some_below p n || p n

abbrev pub count_below : (ℕ → Bool) → ℕ → ℕ
count_below p zero = 0
count_below p (suc n) = if p n then count_below p n + 1 else count_below p n

abbrev pub first_below : (ℕ → Bool) → ℕ → Option ℕ
first_below p zero = None
first_below p (suc n) = if some_below p n then first_below p n else (if p n then Some n else None)

-- n, or the bound if there is one and it is smaller
abbrev pub at_most : Option ℕ → ℕ → ℕ
at_most None n = n
at_most (Some m) n = min m n

-- whether a count is below a limit, and whether it is the limit
abbrev pub is_below : ℕ → Option ℕ → Bool
is_below n None = true
is_below n (Some m) = nat_lt n m

abbrev pub is_at : ℕ → Option ℕ → Bool
is_at n None = false
is_at n (Some m) = n == m

-- whether this many lines are below the search's limit, if it has one
abbrev pub has_room : Settings → ℕ → Bool
has_room settings n = is_below n settings.max_matches

-- what f gives for each of n numbers from i on, joined
abbrev pub joined_from : {X : Type 0} → (ℕ → List X) → ℕ → ℕ → List X
joined_from f i zero = []
joined_from f i (suc n) = f i ++ joined_from f (i + 1) n

-- which lines are selected, and which hit past the limit; whether selected lines in a row are one
-- report; whether a match has the bytes around it, as across lines; and how many of the first lines
-- may be reported
pub record Selection : Type 0 where
  pub selected : ℕ → Bool
  pub trailing : ℕ → Bool
  pub joined : Bool
  pub across : Bool
  pub end : ℕ

-- how a line is reported
pub data Kind : Type 0 where
  matched : Kind
  in_context : SinkContextKind → Kind

-- whether a break may come before it: before a match, or a line before one
abbrev pub can_break : Option Kind → Bool
can_break (Some matched) = true
can_break (Some (in_context Before)) = true
can_break _ = false

module _ (settings : Settings) (bytes : List ℕ) where
  abbrev pub line_count : ℕ
  line_count = length (lines (byte_of settings.line_terminator) bytes)

  abbrev pub line : ℕ → List ℕ
  line i = slice_index_or (lines (byte_of settings.line_terminator) bytes) i []

  -- the offset of line i
  abbrev pub start : ℕ → ℕ
  start i = line_start (byte_of settings.line_terminator) bytes i

  -- one more than the terminators before the offset
  abbrev pub number : ℕ → Option ℕ
  number i =
      if settings.line_number
      then Some (count_by (λ b. b == byte_of settings.line_terminator) (take (start i) bytes) + 1)
      else None

  module _ (selection : Selection) where
    -- one more than the last line of the report that begins at line i
    abbrev pub report_end : ℕ → ℕ
    report_end i =
        if selection.joined
        then unwrap_or (first_below (λ j. nat_lt i j && not (selection.selected j)) line_count)
        line_count
        else i + 1

    -- the bytes of that report
    abbrev pub report_lines : ℕ → List ℕ
    report_lines i = slice_range bytes (start i) (start (report_end i))

    -- and the bytes around them
    abbrev pub report_surroundings : ℕ → Surroundings
    report_surroundings i =
        if selection.across then surroundings bytes (start i) (start (report_end i))
        else no_surroundings

    -- whether a selected line is in one report with the line before it
    abbrev pub continues : ℕ → Bool
    continues i = selection.joined && nat_lt 0 i && selection.selected (i - 1)

    -- one more than the last line of the next report of selected lines after line i
    abbrev pub next_report_end : ℕ → ℕ
    next_report_end i = unwrap_or
        (option_map report_end (first_below (λ j. nat_lt i j && selection.selected j) line_count))
        (i + 1)

    -- whether a selected line is at most so many lines before line i, or after it
    abbrev pub follows_selected : ℕ → Bool
    follows_selected i =
        some_below (λ j. nat_le (i - j) settings.after_context && selection.selected j) i

    abbrev pub precedes_selected : ℕ → Bool
    precedes_selected i =
        some_below
        (λ j. nat_lt i j && nat_le (j - i) settings.before_context && selection.selected j)
        line_count

    -- in the context after a selected line, a trailing line is a match too
    abbrev pub kind : ℕ → Option Kind
    kind i = if selection.selected i then Some matched
        else (if follows_selected i
        then Some (if selection.trailing i then matched else in_context After)
        else (if precedes_selected i then Some (in_context Before)
        else (if settings.passthru then Some (in_context Other) else None)))

    abbrev pub is_reported : ℕ → Bool
    is_reported i = nat_lt i selection.end && is_some (kind i)

    -- the byte count if the report of line i returns false: a line before a match goes with it
    abbrev pub count_at : ℕ → Option Kind → ℕ
    count_at i (Some matched) = start (report_end i)
    count_at i (Some (in_context Before)) = start (next_report_end i)
    count_at i _ = start (i + 1)

    -- a break comes there if lines were left out since the last report
    abbrev pub breaks_before : ℕ → Bool
    breaks_before i = nat_lt 0 (settings.after_context + settings.before_context)
        && can_break (kind i) && not (is_reported (i - 1)) && some_below is_reported i

    -- selected lines in a row that are one report are reported at the first of them
    abbrev pub report : ℕ → Option Kind → List Planned
    report i None = []
    report i (Some matched) =
        if continues i then []
        else planned
        (matches (number i) (start i) (report_lines i) (report_surroundings i))
        (count_at i (Some matched)) ∷ []
    report i (Some (in_context c)) =
        planned (context c (number i) (start i) (line i)) (count_at i (Some (in_context c))) ∷ []

    -- the calls that belong to line i
    abbrev pub calls_at : ℕ → List Planned
    calls_at i =
        if breaks_before i then planned breaks (count_at i (kind i)) ∷ report i (kind i)
        else report i (kind i)

    -- `begin`, and the calls of the first i lines in order
    abbrev pub calls_before : ℕ → List Planned
    calls_before i = planned begins 0 ∷ joined_from calls_at 0 i

    -- those of the lines that may be reported, and `finish`
    abbrev pub reports_plan : Plan
    reports_plan = record {
      calls = calls_before selection.end;
      finish = counted (start selection.end);
    }

-- ---- which lines are selected by line: those that match by themselves

-- whether a line hits, by whether it matches
abbrev pub hits_if : Settings → Bool → Bool
hits_if settings true = not settings.invert_match
hits_if settings false = settings.invert_match

-- whether a search ends at the next line that isn't chosen, by whether a line was chosen
abbrev pub stops_next : Settings → Bool → Bool
stops_next settings some = settings.stop_on_nonmatch && some

module _ (settings : Settings) (meaning : Meaning) (bytes : List ℕ) where
  -- a line hits if whether its stripped bytes match differs from inversion
  abbrev pub hits : ℕ → Bool
  hits i = nat_lt i (line_count settings bytes) && hits_if settings
      (is_some (meaning.first (strip settings.line_terminator (line settings bytes i))))

  -- fewer lines before it hit than the limit has
  abbrev pub is_open_at : ℕ → Bool
  is_open_at i = has_room settings (count_below hits i)

  -- a line that hits is chosen if the limit isn't reached before it, else it is trailing
  abbrev pub is_chosen : ℕ → Bool
  is_chosen i = hits i && is_open_at i

  abbrev pub is_trailing : ℕ → Bool
  is_trailing i = hits i && not (is_open_at i)

  -- a search that stops ends at a line that isn't chosen, after one that is
  abbrev pub ends_search : ℕ → Bool
  ends_search i = stops_next settings (some_below is_chosen i) && not (is_chosen i)

  abbrev pub is_selected : ℕ → Bool
  is_selected i = is_chosen i && not (some_below ends_search i)

  -- the line that fills the limit
  abbrev pub fills_limit : ℕ → Bool
  fills_limit i = is_chosen i && not (has_room settings (count_below hits i + 1))

  -- one more than the last line that may be reported, by the limit: with the context after a match
  abbrev pub end_by_limit : Option ℕ
  end_by_limit = if settings.passthru then None else (if has_room settings 0
      then option_map (λ m. suc (m + settings.after_context))
      (first_below fills_limit (line_count settings bytes)) else Some 0)

  -- by the stop: the line that ends the search may be reported still
  abbrev pub end_by_stop : Option ℕ
  end_by_stop = option_map suc (first_below ends_search (line_count settings bytes))

  -- and by all of its bounds
  abbrev pub reports_end : ℕ
  reports_end = at_most end_by_limit (at_most end_by_stop (line_count settings bytes))

  abbrev pub selected_lines : Selection
  selected_lines = record {
    selected = is_selected;
    trailing = is_trailing;
    joined = false;
    across = false;
    end = reports_end;
  }

  -- the plan of a search by line
  abbrev pub line_plan : Plan
  line_plan = reports_plan settings bytes selected_lines

-- across lines the next match is looked for from a match's end, or one byte after an empty one
abbrev pub position_after : ℕ × ℕ → ℕ
position_after m = if nat_lt m.0 m.1 then m.1 else m.1 + 1

-- and after some matches that were looked for from a position on
abbrev pub position_past : ℕ → List (ℕ × ℕ) → ℕ
position_past position [] = position
position_past position (m ∷ later) = position_past (position_after m) later

-- a match, if it is within its haystack; a matcher returns no other
abbrev pub if_within : List ℕ → Option (ℕ × ℕ) → Option (ℕ × ℕ)
if_within haystack None = None
if_within haystack (Some m) =
    if nat_le m.0 m.1 && nat_le m.1 (length haystack) then Some m else None

module _ (meaning : Meaning) (bytes : List ℕ) where
  -- the first match in the bytes from a position on, if bytes are left there
  abbrev pub match_from : ℕ → Option (ℕ × ℕ)
  match_from position =
      if nat_lt position (length bytes)
      then option_map (λ m. (position + m.0, position + m.1))
      (if_within (drop position bytes) (meaning.first (drop position bytes)))
      else None

  -- the first n of the successive matches from a position on
  abbrev pub matches_from : ℕ → ℕ → List (ℕ × ℕ)
  matches_from position zero = []
  matches_from position (suc n) = elim (match_from position) [
    | None ↦ []
    | Some m ↦ m ∷ matches_from (position_after m) n
  ]

  -- all of them, of which there are at most as many as bytes; and as many as a limit has
  abbrev pub all_matches : List (ℕ × ℕ)
  all_matches = matches_from 0 (length bytes)

  abbrev pub matches_up_to : Option ℕ → List (ℕ × ℕ)
  matches_up_to None = all_matches
  matches_up_to (Some limit) = take limit all_matches

-- across lines, whether the lines that no match touches are selected, each a report of its own
abbrev pub selects_free : Settings → Bool
selects_free settings = settings.invert_match

module _ (settings : Settings) (meaning : Meaning) (bytes : List ℕ) where
  -- whether a line is in a match's block; none is for an empty match after the last terminator
  abbrev pub touches : ℕ → ℕ × ℕ → Bool
  touches i m =
      nat_le (block_start (byte_of settings.line_terminator) bytes m) (start settings bytes i)
      && nat_le (start settings bytes (i + 1))
      (block_end (byte_of settings.line_terminator) bytes m)

  -- whether one of some matches touches the line, and whether no match at all does
  abbrev pub is_touched : List (ℕ × ℕ) → ℕ → Bool
  is_touched found i = nat_lt i (line_count settings bytes) && list_any (touches i) found

  abbrev pub is_free : ℕ → Bool
  is_free i =
      nat_lt i (line_count settings bytes) && not (is_touched (all_matches meaning bytes) i)

  -- the lines that as many matches touch as the limit has; under inversion as many free lines
  abbrev pub is_touched_selected : ℕ → Bool
  is_touched_selected i =
      if selects_free settings then is_free i && has_room settings (count_below is_free i)
      else is_touched (matches_up_to meaning bytes settings.max_matches) i

  -- lines in a row that matches touch are one report. Each line may be reported
  abbrev pub touched_lines : Selection
  touched_lines = record {
    selected = is_touched_selected;
    trailing = λ i. false;
    joined = not (selects_free settings);
    across = true;
    end = line_count settings bytes;
  }

  -- the plan of a search across lines
  abbrev pub across_plan : Plan
  across_plan = reports_plan settings bytes touched_lines

-- ---- why a search is refused, what it asks its matcher, and after which calls

-- whether two terminators are the same; the byte LF and CRLF are two
abbrev pub is_same : LineTerminator → LineTerminator → Bool
is_same (Byte a) (Byte b) = a == b
is_same Crlf Crlf = true
is_same _ _ = false

-- whether a terminator is declared, and is this one
abbrev pub is_declared : Option LineTerminator → LineTerminator → Bool
is_declared None terminator = false
is_declared (Some declared) terminator = is_same declared terminator

-- the matcher declares another terminator than the searcher has
abbrev pub mismatch_of : Option LineTerminator → LineTerminator → Option ConfigError
mismatch_of None searcher = None
mismatch_of (Some matcher) searcher =
    if is_same matcher searcher then None else Some (MismatchedLineTerminators matcher searcher)

-- why a search is refused: the heap limit is looked at first, then the terminators
abbrev pub refusal_of : Settings → Meaning → Option ConfigError
refusal_of settings meaning = if is_at 0 settings.heap_limit then Some SearchUnavailable
    else mismatch_of meaning.terminator settings.line_terminator

-- across lines if `multi_line` is set, and the matcher doesn't exclude the terminator from matches
abbrev pub is_across : Settings → Meaning → Bool
is_across settings meaning =
    settings.multi_line && not (is_declared meaning.terminator settings.line_terminator)
    && not (meaning.absent (byte_of settings.line_terminator))

-- a search may ask about many lines at once: not all are reported, no match has the terminator, and
-- the matcher doesn't declare the byte 0. One that does is asked about each line alone
pub record AsksAhead (settings : Settings) (meaning : Meaning) : Type 0 where
  pub selects : settings.passthru ≡ false
  pub excludes : ExcludesTerminator settings.line_terminator meaning
  pub declares : meaning.terminator ≢ Some (Byte 0)

-- if it may, the matcher is lawful for the search's terminator
abbrev pub IsLawful : {F : Type 0} → MatcherFacts F → Settings → Type 0
IsLawful matcher settings =
    AsksAhead settings matcher.meaning → matcher.is_lawful settings.line_terminator

-- how many matches count: under inversion the limit is one of lines, and all count unless it is 0
abbrev pub match_limit : Settings → Option ℕ
match_limit settings =
    if selects_free settings && has_room settings 0 then None else settings.max_matches

module _ (settings : Settings) (meaning : Meaning) (bytes : List ℕ) where
  -- a question about the lines from line i up to another, while the limit has room. Once a line was
  -- chosen, a search that stops at the next line that isn't asks about each line alone
  pub record IsAskedAhead (i : ℕ) (haystack : List ℕ) : Type 0 where
    pub allowed : AsksAhead settings meaning
    pub room : is_open_at settings meaning bytes i ≡ true
    pub unstopped : stops_next settings (some_below (is_chosen settings meaning bytes) i) ≡ false
    pub end : ℕ
    pub after : i < end
    pub within : end ≤ line_count settings bytes
    pub lines : haystack ≡ slice_range bytes (start settings bytes i) (start settings bytes end)

  -- about line i without its terminator, or about whole lines from it on
  abbrev pub IsAskedFrom : ℕ → List ℕ → Type 0
  IsAskedFrom i haystack = (haystack ≡ strip settings.line_terminator (line settings bytes i))
      ⊎ IsAskedAhead i haystack

  -- so it is asked by line, at a line that may be reported: while fewer lines hit than the limit
  -- has, or in the context after a selected line
  pub record IsLineQuestion (i : ℕ) (haystack : List ℕ) : Type 0 where
    pub may_report : i < reports_end settings meaning bytes
    pub room : (is_open_at settings meaning bytes i
        || follows_selected settings bytes (selected_lines settings meaning bytes) i) ≡ true
    pub question : IsAskedFrom i haystack

  -- across lines, for the match after some of those that count, in the bytes after them
  pub record IsAskedAfter (found : List (ℕ × ℕ)) (haystack : List ℕ) : Type 0 where
    pub later : List (ℕ × ℕ)
    pub all : matches_up_to meaning bytes (match_limit settings) ≡ found ++ later
    pub room : is_below (length found) (match_limit settings) ≡ true
    pub inside : position_past 0 found < length bytes
    pub rest : haystack ≡ drop (position_past 0 found) bytes

  -- at line i: the first, or one after a run of lines that the matches so far touch. From it on
  -- they touch one run, from `first` to before `last`; where that ends is what the next match says
  pub record IsAskedAt (i : ℕ) (haystack : List ℕ) : Type 0 where
    pub found : List (ℕ × ℕ)
    pub question : IsAskedAfter found haystack
    pub after : 0 < i → is_touched settings meaning bytes found (i - 1) ≡ true
    pub apart : 0 < i → is_touched settings meaning bytes found i ≡ false
    pub first : ℕ
    pub last : ℕ
    pub low : i ≤ first
    pub some : 0 < length found → first < last
    pub run : (j : ℕ) → i ≤ j
        → is_touched settings meaning bytes found j ≡ (nat_le first j && nat_lt j last)

  -- under inversion only while fewer lines are free than the limit has
  pub record IsMatchQuestion (i : ℕ) (haystack : List ℕ) : Type 0 where
    pub question : IsAskedAt i haystack
    pub room : selects_free settings ≡ true
        → has_room settings (count_below (is_free settings meaning bytes) i) ≡ true

  abbrev pub IsQuestionIn : Bool → ℕ → List ℕ → Type 0
  IsQuestionIn false = IsLineQuestion
  IsQuestionIn true = IsMatchQuestion

  -- the selected lines, by line or across lines, and their reports
  abbrev pub selection_in : Bool → Selection
  selection_in false = selected_lines settings meaning bytes
  selection_in true = touched_lines settings meaning bytes

  abbrev pub plan_in : Bool → Plan
  plan_in across = reports_plan settings bytes (selection_in across)

  abbrev pub search_plan : Plan
  search_plan = plan_in (is_across settings meaning)

  -- what a matcher is asked, and the calls before: just those whose count, if they return false, is
  -- at most the start of the line at which it is asked
  pub record IsAskedIn (across : Bool) (haystack : List ℕ) (calls : List Planned) : Type 0 where
    pub index : ℕ
    pub question : IsQuestionIn across index haystack
    pub before : calls ≡ through (start settings bytes index) (plan_in across).calls

  abbrev pub IsAskedWith : List ℕ → List Planned → Type 0
  IsAskedWith = IsAskedIn (is_across settings meaning)
