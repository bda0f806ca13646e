-- What handlers of matches make of a match, and of a search.
use Rattle.std.specs.Prelude.{◌≡◌, ℕ, ◌+◌, ◌-◌, ◌<◌, ◌^◌, Bool, true, false, if◌then◌else◌, nat_lt}
use Rattle.std.specs.Prelude.{List, [], ◌∷◌, ◌++◌, length, map, take, drop, Vec, Option, None}
use Rattle.std.specs.Prelude.{Result, Ok, Err}
use Rattle.std.specs.List.{fold}
use Rattle.grep_matcher.specs.Meanings.{Meaning}
use Rattle.grep_report.specs.SearchErrors.{IsOutOfMemory}
use Rattle.grep_report.specs.declared.sink_error.SearchError.{SearchError}
use Rattle.grep_definitions.specs.Plans.{is_across, search_plan, Call, matches, context, finishes}
use Rattle.grep_definitions.specs.Plans.{Plan, Steps, IsRun, reported_bytes, reported_from}
use Rattle.grep_definitions.specs.Plans.{line_count, some_below, is_selected, is_touched_selected}
use Rattle.grep_definitions.specs.Plans.{Settings}
use Rattle.grep_definitions.specs.SearchLaws.{is_match, match_calls, match_of, matched_lines}
use Rattle.grep_searcher.specs.SinkFolds.{fold_while, IsTakenBy, IsTakenOk}

-- the byte count of the end fits in 64 bits
abbrev pub FitsAtEnd : Call → Type 0
FitsAtEnd (finishes count binary) = count < 2 ^ 64
FitsAtEnd _ = Unit {0}

-- the steps of a sink that is made of what one match does, by this relation: any other call goes
-- on, leaves the state alone and never fails. The byte count at the end fits in 64 bits
module _ {S E : Type 0} (step : S → Call → Result Bool E → S → Type 0) where
  abbrev pub IsMatchStep : Steps S E
  IsMatchStep old settings call (Ok b) new =
      IsTakenOk (λ old call b new. step old call (Ok b) new) old call b new × FitsAtEnd call
  IsMatchStep old settings call (Err e) new = (is_match call ≡ true) × step old call (Err e) new

module _ {H E : Type 0} (goes : H → Call → Bool) (next : H → Call → H)
    (fails : H → Call → E → H → Type 0) where
  -- a match is handled by these functions of the state and the call, or it fails by this relation
  abbrev pub IsHandled : H → Call → Result Bool E → H → Type 0
  IsHandled old call (Ok b) new = IsTakenBy goes next old call b new
  IsHandled old call (Err e) new = fails old call e new

  -- the steps of a sink that is made of such a handler
  abbrev pub IsHandlerStep : Steps H E
  IsHandlerStep = IsMatchStep IsHandled

  -- in a run that ended in `Ok`, of such a sink, the handler handled the matches that are reported,
  -- up to the first after which the search doesn't go on
  abbrev pub RunsHandle : Type 0
  RunsHandle =
      (settings : Settings) (old : H) (plan : Plan) (new : H)
      → IsRun IsHandlerStep settings old plan (Ok tt) new
      → new ≡ fold_while goes next old (match_calls plan.calls)

  -- in one that ended in an error it handled the matches before one, and failed at that one
  abbrev pub RunsFailAt : Type 0
  RunsFailAt =
      (settings : Settings) (old : H) (plan : Plan) (e : E) (new : H)
      → IsRun IsHandlerStep settings old plan (Err e) new
      → (before : List Call) × (call : Call) × (later : List Call)
      × (match_calls plan.calls ≡ before ++ call ∷ later)
      × fails (fold next old before) call e new

  -- if it always goes on, the byte count of a run that ended in `Ok` fits in 64 bits
  abbrev pub RunsFit : Type 0
  RunsFit =
      ((old : H) (call : Call) → goes old call ≡ true)
      → (settings : Settings) (old : H) (plan : Plan) (new : H)
      → IsRun IsHandlerStep settings old plan (Ok tt) new → plan.finish.count < 2 ^ 64

-- a report that was kept: the number of its first line, its offset in the whole input, and its
-- bytes
pub record KeptReport : Type 0 where
  pub line_number : Option ℕ
  pub offset : ℕ
  pub bytes : List ℕ

-- the number of the first line that a call reports
abbrev pub reported_number : Call → Option ℕ
reported_number (matches number offset bytes around) = number
reported_number (context kind number offset bytes) = number
reported_number _ = None

-- what is kept of a report
abbrev pub kept_of : Call → KeptReport
kept_of call = record {
  line_number = reported_number call;
  offset = reported_from call;
  bytes = reported_bytes call;
}

-- there was no memory for a report, and what was kept stays
abbrev pub LacksMemory : {V A : Type 0} → V → Call → SearchError A → V → Type 0
LacksMemory old call e new = IsOutOfMemory e × (new ≡ old)

-- each match is kept
abbrev pub with_match : List KeptReport → Call → List KeptReport
with_match old call = old ++ kept_of call ∷ []

-- the first matches that were kept, and how many there may be
pub record FirstReports : Type 0 where
  pub limit : ℕ
  pub kept : List KeptReport

-- whether another may be kept
abbrev pub has_room : FirstReports → Bool
has_room first = nat_lt (length first.kept) first.limit

-- a match is kept if there is room
abbrev pub with_first : FirstReports → Call → FirstReports
with_first old call =
    if has_room old then record old { kept = with_match old.kept call } else old

-- the last items of a list, as many as this, or all if there are fewer
abbrev pub last_items : {X : Type 0} → ℕ → List X → List X
last_items count items = drop (length items - count) items

-- the last matches that were kept, and how many there may be
pub record LastReports : Type 0 where
  pub limit : ℕ
  pub kept : List KeptReport

-- a match is kept, and the oldest is let go if there are more than the limit
abbrev pub with_last : LastReports → Call → LastReports
with_last old call = record old {
  kept =
      if nat_lt old.limit (length old.kept + 1)
      then drop 1 (with_match old.kept call)
      else with_match old.kept call;
}

-- the bytes of each of some vectors
abbrev pub bytes_of_each : {A : Type 0} → List (Vec ℕ A) → List (List ℕ)
bytes_of_each vectors = map (λ vector. vector.items) vectors

-- the bytes of each match are kept
abbrev pub with_bytes : List (List ℕ) → Call → List (List ℕ)
with_bytes old call = old ++ reported_bytes call ∷ []

-- The sinks of these handlers.

-- a match was found, and ends the search
abbrev pub IsFoundStep : {E : Type 0} → Steps Bool E
IsFoundStep = IsHandlerStep (λ _ _. false) (λ _ _. true) (λ _ _ _ _. ⊥)

-- each match is kept
abbrev pub IsCollectStep : {A : Type 0} → Steps (List KeptReport) (SearchError A)
IsCollectStep = IsHandlerStep (λ _ _. true) with_match LacksMemory

-- the first matches are kept, and the last of them ends the search
abbrev pub IsFirstStep : {A : Type 0} → Steps FirstReports (SearchError A)
IsFirstStep = IsHandlerStep (λ old call. has_room (with_first old call)) with_first LacksMemory

-- each match is kept, and the oldest let go
abbrev pub IsLastStep : {A : Type 0} → Steps LastReports (SearchError A)
IsLastStep = IsHandlerStep (λ _ _. true) with_last LacksMemory

-- the bytes of each match are kept
abbrev pub IsEachLineStep : {A : Type 0} → Steps (List (List ℕ)) (SearchError A)
IsEachLineStep = IsHandlerStep (λ _ _. true) with_bytes LacksMemory

-- whether a line is selected
abbrev pub has_selected : Settings → Meaning → List ℕ → Bool
has_selected settings meaning bytes =
    some_below (is_selected settings meaning bytes) (line_count settings bytes)

-- by line, a run of a new handler that ended in `Ok` found a match exactly if a line is selected
abbrev pub RunsFindSelected : Type 0 → Type 0
RunsFindSelected E =
    (settings : Settings) (meaning : Meaning) (bytes : List ℕ) → is_across settings meaning ≡ false
    → (old new : Bool) → old ≡ false
    → IsRun {E = E} IsFoundStep settings old (search_plan settings meaning bytes) (Ok tt) new
    → new ≡ has_selected settings meaning bytes

-- across lines too
abbrev pub RunsFindAcross : Type 0 → Type 0
RunsFindAcross E =
    (settings : Settings) (meaning : Meaning) (bytes : List ℕ) → is_across settings meaning ≡ true
    → (old new : Bool) → old ≡ false
    → IsRun {E = E} IsFoundStep settings old (search_plan settings meaning bytes) (Ok tt) new
    → new
    ≡ some_below (is_touched_selected settings meaning bytes) (line_count settings bytes)

-- a run that ended in `Ok` adds the matches that are reported
abbrev pub RunsCollect : Type 0 → Type 0
RunsCollect A =
    (settings : Settings) (old : List KeptReport) (plan : Plan) (new : List KeptReport)
    → IsRun {E = SearchError A} IsCollectStep settings old plan (Ok tt) new
    → new ≡ old ++ map kept_of (match_calls plan.calls)

-- one that ended in an error adds the matches before the one for which there was no memory
abbrev pub RunsCollectUntil : Type 0 → Type 0
RunsCollectUntil A =
    (settings : Settings) (old : List KeptReport) (plan : Plan) (e : SearchError A)
    (new : List KeptReport)
    → IsRun IsCollectStep settings old plan (Err e) new
    → IsOutOfMemory e × (before later : List Call)
    × (match_calls plan.calls ≡ before ++ later) × (new ≡ old ++ map kept_of before)

-- what is kept of line i
abbrev pub kept_line : Settings → List ℕ → ℕ → KeptReport
kept_line settings bytes i = kept_of (match_of settings bytes i)

-- by line these are the matched lines
abbrev pub RunsCollectLines : Type 0 → Type 0
RunsCollectLines A =
    (settings : Settings) (meaning : Meaning) (bytes : List ℕ) → is_across settings meaning ≡ false
    → (old : List KeptReport) (new : List KeptReport)
    → IsRun {E = SearchError A} IsCollectStep settings old (search_plan settings meaning bytes)
    (Ok tt) new
    → new ≡ old ++ map (kept_line settings bytes) (matched_lines settings meaning bytes)

-- a run of a new handler that ended in `Ok` kept the first matches that are reported
abbrev pub RunsKeepFirst : Type 0 → Type 0
RunsKeepFirst A =
    (settings : Settings) (limit : ℕ) (old : FirstReports) (plan : Plan) (new : FirstReports)
    → old ≡ record { limit = limit; kept = [] }
    → IsRun {E = SearchError A} IsFirstStep settings old plan (Ok tt) new
    → new ≡ record { limit = limit; kept = map kept_of (take limit (match_calls plan.calls)) }

-- by line these are the first matched lines
abbrev pub RunsKeepFirstLines : Type 0 → Type 0
RunsKeepFirstLines A =
    (settings : Settings) (meaning : Meaning) (bytes : List ℕ) → is_across settings meaning ≡ false
    → (limit : ℕ) (old new : FirstReports) → old ≡ record { limit = limit; kept = [] }
    → IsRun {E = SearchError A} IsFirstStep settings old (search_plan settings meaning bytes)
    (Ok tt) new
    → new ≡ record {
      limit = limit;
      kept = map (kept_line settings bytes) (take limit (matched_lines settings meaning bytes));
    }

-- a run of a new handler that ended in `Ok` kept the last matches that are reported
abbrev pub RunsKeepLast : Type 0 → Type 0
RunsKeepLast A =
    (settings : Settings) (limit : ℕ) (old : LastReports) (plan : Plan) (new : LastReports)
    → old ≡ record { limit = limit; kept = [] }
    → IsRun {E = SearchError A} IsLastStep settings old plan (Ok tt) new
    → new ≡ record {
      limit = limit;
      kept = last_items limit (map kept_of (match_calls plan.calls));
    }

-- a run that ended in `Ok` adds the bytes of the matches that are reported
abbrev pub RunsKeepBytes : Type 0 → Type 0
RunsKeepBytes A =
    (settings : Settings) (old : List (List ℕ)) (plan : Plan) (new : List (List ℕ))
    → IsRun {E = SearchError A} IsEachLineStep settings old plan (Ok tt) new
    → new ≡ old ++ map reported_bytes (match_calls plan.calls)
