-- A search of whole contents that ends at a byte, by a sink that looks for it in each report: the
-- calls that it makes of the sink that it has.
use Rattle.grep_searcher.specs.QuittingSinks.{Watch, IsQuittingStep, end_result, IsLookedAt}
use Rattle.grep_searcher.specs.QuittingSinks.{IsMadeAfter, count_to, Quits, watch_of, first_quit}
use Rattle.grep_searcher.specs.declared.search.quitting.Quitting.{Quitting}
use Rattle.grep_definitions.proofs.BreakLemmas.{AreReports, no_reports, plain_report, broken_report}
use Rattle.grep_definitions.proofs.SinkRunLemmas.{AreMade-append, AreMade-ended}
use Rattle.grep_definitions.specs.SinkRuns.{IsMadeTo, plan_of}
use Rattle.grep_definitions.specs.SliceSearches.{IsContentsSearch}
use Rattle.grep_definitions.proofs.ContentsSearchLemmas.{quit-ran}
use Rattle.grep_definitions.specs.Searches.{asked, calls_with, contents_point, in_contents, nowhere}
use Rattle.grep_definitions.specs.Searches.{ran, position_of, call_at, offset_at, plan_with}
use Rattle.grep_definitions.specs.Searches.{point_at, point_unless, planned_binary, with_offset}
use Rattle.grep_definitions.specs.Searches.{first_look}
use Rattle.grep_definitions.specs.Plans.{start, through, reports_end, selected_lines, touched_lines}
use Rattle.grep_definitions.specs.Plans.{Call, Planned, begins, matches, context, breaks}
use Rattle.grep_definitions.specs.Plans.{binary_data, finishes, is_break, reported_bytes}
use Rattle.grep_definitions.specs.Plans.{reported_from, Steps, Outcome, all_true, stopped, failed}
use Rattle.grep_definitions.specs.Plans.{AreMade, IsFinished, IsRun, finish_result, Finish, counted}
use Rattle.grep_definitions.specs.Plans.{planned, joined_from, Settings, plan_in, IsAskedIn}
use Rattle.grep_definitions.specs.Plans.{calls_at, line_count}
use Rattle.grep_definitions.specs.BinaryLaws.{holds_byte}
use Rattle.grep_definitions.specs.SearchLaws.{is_report}
use Rattle.grep_lines.proofs.ReplaceLemmas.{position-found}
use Rattle.grep_matcher.specs.Meanings.{Meaning, MatcherFacts}
use Rattle.grep_report.specs.ErrorMakers.{ErrorMakers}
use Rattle.grep_report.specs.declared.binary_detection.BinaryDetection.TheVariants.{Quit}
use Rattle.grep_walk.proofs.FinishLemmas.{run-finish}
use Rattle.memchr.specs.Find.{IsFirstByte, is_byte}
use Rattle.std.proofs.Common.{◌≡◌, ◌⊎◌, ℕ, zero, suc, ◌+◌, ◌-◌, ◌<◌, Bool, true, false, List, []}
use Rattle.std.proofs.Common.{◌∷◌, ◌++◌, take, if◌then◌else◌, ◌==◌, Result, Ok, Err, Option, None}
use Rattle.std.proofs.Common.{Some, refl, sym, ap, ◌∙◌, arith, inl, inr, subst}
use Rattle.std.proofs.Math.Nat.{min_comm}
use Rattle.std.proofs.lemmas.Bool.{le-leb}
use Rattle.std.proofs.lemmas.List.{take_min}
use Rattle.std.specs.List.{position, position_or_len}
use Rattle.std.specs.Prelude.{is_some, min, length}
use Rattle.grep_line_buffer.proofs.FirstPositionLemmas as first
use Rattle.grep_definitions.proofs.BreakLemmas as pairs

-- a report is no break
report-no-break : (call : Call) → is_report call ≡ true → is_break call ≡ false
report-no-break begins is = refl
report-no-break (matches number from bytes around) is = refl
report-no-break (context kind number from bytes) is = refl
report-no-break breaks is = cc
report-no-break (binary_data offset) is = refl
report-no-break (finishes count binary) is = refl

-- the calls before call n, without a break just before it
abbrev calls_before : ℕ → List Planned → ℕ → List Planned
calls_before b calls n = take (point_at b calls n).position calls

-- after which `finish` has no offset, if one of some calls returned false
abbrev pub IsPlain : {E : Type 0} → Outcome E → Type 0
IsPlain all_true = Unit {0}
IsPlain (stopped finish) = finish.binary ≡ None
IsPlain (failed e) = Unit {0}

module _ (b : ℕ) where
  -- no break of a report that holds the byte
  abbrev IsApart : Planned → List Planned → Type 0
  IsApart call later = (is_break call.call ≡ false) ⊎ ((n : ℕ) → position (holds_byte b) later
      ≡ Some n → 0 < n)

  -- the calls before a later report that holds the byte, with one more call before them
  before-more : (call : Planned) (later : List Planned) (n : ℕ) → (is_break call.call ≡ false)
      ⊎ (0 < n) → calls_before b (call ∷ later) (suc n) ≡ call ∷ calls_before b later n
  before-more call later zero (inl plain) =
      rw plain (ap (λ l. call ∷ l) (go (is_break (call_at b later 0).call)))
    where
      go : (c : Bool) → [] ≡ take (if c then 0 else 0) later
      go true = refl
      go false = refl
  before-more call later zero (inr some) = absurd (omega (arith, some))
  before-more call later (suc n) apart =
      let one : suc (suc n) - 1 ≡ suc n = omega arith in
      let less : suc n - 1 ≡ n = omega arith in
      rw (one, less) (go (is_break (call_at b later n).call))
    where
      go : (c : Bool) → take (if c then suc n else suc (suc n)) (call ∷ later) ≡ call
          ∷ take (if c then n else suc n) later
      go true = refl
      go false = refl

  apart-at : (call : Planned) (later : List Planned) (n : ℕ) → IsApart call later
      → position (holds_byte b) later ≡ Some n → (is_break call.call ≡ false) ⊎ (0 < n)
  apart-at call later n (inl plain) is = inl plain
  apart-at call later n (inr far) is = inr (far n is)

module _ {S E : Type 0} (step : Steps S E) (may_call : S → Type 0) (k : Settings) (b : ℕ) where
  -- what came of a call that ended the search, or of `binary_data`
  abbrev IsEnd : Outcome E → Result Bool E → Type 0
  IsEnd outcome (Ok goes_on) = (finish : Finish) × (outcome ≡ stopped finish)
  IsEnd outcome (Err e) = outcome ≡ failed e

  -- what the sink had of some calls: no report holds the byte; or the search ended before the first
  -- one that does, or at it
  pub data HasQuit (calls : List Planned) (old : S) (outcome : Outcome E) (new : Watch S) : Type 0
    where
      unheld : position (holds_byte b) calls ≡ None → new.found ≡ None
          → AreMade step k old calls outcome new.sink → HasQuit calls old outcome new
      ended_before : (n : ℕ) → position (holds_byte b) calls ≡ Some n → new.found ≡ None
          → (outcome ≡ all_true → ⊥) → AreMade step k old (calls_before b calls n) outcome new.sink
          → HasQuit calls old outcome new
      ended_at : (n : ℕ) → position (holds_byte b) calls ≡ Some n → new.found
          ≡ Some (offset_at b calls n) → (mid : S)
          → AreMade step k old (calls_before b calls n) all_true mid → (returned : Result Bool E)
          → step mid k (binary_data (offset_at b calls n)) returned new.sink
          → IsEnd outcome returned → HasQuit calls old outcome new

  -- one more call before them, that doesn't hold the byte
  quits-more : (call : Planned) {later : List Planned} {old mid : S} {outcome : Outcome E}
      {new : Watch S}
      → holds_byte b call ≡ false → IsApart b call later → step old k call.call (Ok true) mid
      → HasQuit later mid outcome new → HasQuit (call ∷ later) old outcome new
  quits-more call {later} {mid} free apart made (unheld none clear reported) =
      unheld (first.position-never (holds_byte b) call later free none) clear
      (inl (mid, made, reported))
  quits-more call {later} {old} {mid} {outcome} {new} free apart made
      (ended_before n is clear some reported) =
      ended_before (suc n) (first.position-later (holds_byte b) call later n free is) clear some
      (rw (before-more b call later n (apart-at b call later n apart is))
      (inl (mid, made, reported)))
  quits-more call {later} {old} {mid} free apart made
      (ended_at n is found last reported returned called end) =
      ended_at (suc n) (first.position-later (holds_byte b) call later n free is) found last
      (rw (before-more b call later n (apart-at b call later n apart is))
      (inl (mid, made, reported))) returned called end

  -- or it ended at that call
  quits-none : (call : Planned) (later : List Planned) (old : S) (outcome : Outcome E)
      (new : Watch S) → holds_byte b call ≡ false → IsApart b call later → new.found ≡ None
      → (outcome ≡ all_true → ⊥)
      → ((rest : List Planned) → AreMade step k old (call ∷ rest) outcome new.sink)
      → HasQuit (call ∷ later) old outcome new
  quits-none call later old outcome new free apart clear some reported =
      go (position (holds_byte b) later) refl
    where
      go : (found : Option ℕ) → position (holds_byte b) later ≡ found
          → HasQuit (call ∷ later) old outcome new
      go None is = unheld (first.position-never (holds_byte b) call later free is) clear
          (reported later)
      go (Some n) is = ended_before (suc n) (first.position-later (holds_byte b) call later n free
          is) clear some (rw (before-more b call later n (apart-at b call later n apart is))
          (reported (calls_before b later n)))

  abbrev Q : Steps (Watch S) E
  Q = IsQuittingStep step may_call b

  -- what followed a call
  abbrev Went : Planned → Result Bool E → Watch S → List Planned → Outcome E → Watch S → Type 0
  Went call (Ok true) mid later outcome new = AreMade Q k mid later outcome new
  Went call (Ok false) mid later outcome new = (outcome ≡ stopped call.if_false) × (new ≡ mid)
  Went call (Err e) mid later outcome new = (outcome ≡ failed e) × (new ≡ mid)

  first-call : (call : Planned) (later : List Planned) (old : Watch S) (outcome : Outcome E)
      (new : Watch S) → AreMade Q k old (call ∷ later) outcome new
      → (result : Result Bool E) × (mid : Watch S) × Q old k call.call result mid
      × Went call result mid later outcome new
  first-call call later old outcome new (inl (mid, made, rest)) = (Ok true, mid, made, rest)
  first-call call later old outcome new (inr (inl (is, made))) = (Ok false, new, made, (is, refl))
  first-call call later old outcome new (inr (inr (e, is, made))) = (Err e, new, made, (is, refl))

  -- a call that didn't return true ended the search; a break has the count of the report after it
  halts : (gap call : Planned) (later more : List Planned) (old : S) (mid : Watch S)
      {outcome : Outcome E} {new : Watch S}
      (result : Result Bool E) → (result ≡ Ok true → ⊥) → gap.if_false ≡ call.if_false
      → holds_byte b gap ≡ false
      → IsApart b gap later → step old k gap.call result mid.sink → mid.found ≡ None
      → Went call result mid more outcome new → HasQuit (gap ∷ later) old outcome new
  halts gap call later more old mid (Ok true) some same_end free apart made clear went =
      absurd (some refl)
  halts gap call later more old mid {outcome} {new} (Ok false) some same_end free apart made clear
      (stops, same) =
      quits-none gap later old _ new free apart (ap (λ (w : Watch S). w.found) same ∙ clear)
      (λ all. let never = sym all ∙ stops in cc)
      (λ rest. inr (inl (
        stops ∙ ap (λ f. stopped f) (sym same_end),
        subst (λ (w : Watch S). step old k gap.call (Ok false) w.sink) (sym same) made,
      )))
  halts gap call later more old mid {outcome} {new} (Err e) some same_end free apart made clear
      (fails, same) =
      quits-none gap later old _ new free apart (ap (λ (w : Watch S). w.found) same ∙ clear)
      (λ all. let never = sym all ∙ fails in cc)
      (λ rest. inr (inr (
        e,
        fails,
        subst (λ (w : Watch S). step old k gap.call (Err e) w.sink) (sym same) made,
      )))

  -- a report that is made
  quits-report : (call : Planned) {later : List Planned} {old : S} (mid : Watch S)
      {outcome : Outcome E} {new : Watch S}
      → (result : Result Bool E) → is_break call.call ≡ false → holds_byte b call ≡ false
      → step old k call.call result mid.sink → mid.found ≡ None
      → Went call result mid later outcome new
      → (AreMade Q k mid later outcome new → HasQuit later mid.sink outcome new)
      → HasQuit (call ∷ later) old outcome new
  quits-report call {later} {old} mid {outcome} {new} (Ok true) is free made clear went rest =
      quits-more call free (inl is) made (rest went)
  quits-report call {later} mid (Ok false) is free made clear went rest =
      halts call call later later _ mid _ (λ all. cc) refl free (inl is) made clear went
  quits-report call {later} mid (Err e) is free made clear went rest =
      halts call call later later _ mid _ (λ all. cc) refl free (inl is) made clear went

  -- the calls before a first report that holds the byte
  none-before : (call : Planned) (later : List Planned) → calls_before b (call ∷ later) 0 ≡ []
  none-before call later = go (is_break call.call)
    where
      go : (c : Bool) → take (if c then 0 else 0) (call ∷ later) ≡ []
      go true = refl
      go false = refl

  -- the search ended at a report
  end-of : (call : Planned) (later : List Planned) (mid : Watch S) (outcome : Outcome E)
      (new : Watch S) (returned : Result Bool E)
      → Went call (end_result returned) mid later outcome new → (new ≡ mid) × IsEnd outcome returned
  end-of call later mid outcome new (Ok goes_on) (stops, same) = (same, (call.if_false, stops))
  end-of call later mid outcome new (Err e) (fails, same) = (same, fails)

  -- its first report that holds the byte is call n, and nothing was made before it
  at-byte : (calls : List Planned) (n : ℕ) (call : Planned) (later : List Planned) (old : S)
      (mid : Watch S) {outcome : Outcome E} {new : Watch S} (index : ℕ) {result : Result Bool E}
      → position_of b (reported_bytes call.call) ≡ Some index → position (holds_byte b) calls
      ≡ Some n → call_at b calls n ≡ call → calls_before b calls n ≡ []
      → mid.found ≡ Some (reported_from call.call + index) → (returned : Result Bool E) → result
      ≡ end_result returned
      → step old k (binary_data (reported_from call.call + index)) returned mid.sink
      → Went call result mid later outcome new → HasQuit calls old outcome new
  at-byte calls n call later old mid {outcome} {new} index holds is there none found returned ends
      called went =
      let end = end-of call later mid _ new _ (subst (λ r. Went call r mid later outcome new) ends
      went) in
      let offset : offset_at b calls n ≡ reported_from call.call + index =
      ap (λ (p : Planned). reported_from p.call + position_or_len (λ x. x == b)
      (reported_bytes p.call)) there
      ∙ ap (λ i. reported_from call.call + i) (first.position-is (λ x. x == b) _ index holds) in
      ended_at n is (ap (λ (w : Watch S). w.found) end.0 ∙ found ∙ ap (λ n. Some n) (sym offset))
      old (rw none (refl, refl)) returned (rw (offset, end.0) called) end.1

  looked : (call : Call) (old : Watch S) (result : Result Bool E) (mid : Watch S) → is_report call
      ≡ true → Q old k call result mid
      → IsLookedAt step may_call (position_of b (reported_bytes call)) (reported_from call) old k
      call result mid
  looked begins old result mid is made = cc
  looked (matches number from bytes around) old result mid is made = made
  looked (context kind number from bytes) old result mid is made = made
  looked breaks old result mid is made = cc
  looked (binary_data offset) old result mid is made = cc
  looked (finishes count binary) old result mid is made = cc

  -- such calls, from any state between two reports
  abbrev QuitsFrom : List Planned → Outcome E → Watch S → Type 0
  QuitsFrom calls outcome new =
      (mid : Watch S) → mid.has_break ≡ false → mid.found ≡ None → AreMade Q k mid calls outcome new
      → HasQuit calls mid.sink outcome new

  pub quits : (calls : List Planned) → AreReports calls → (old : Watch S) (outcome : Outcome E)
      (new : Watch S) → old.has_break ≡ false → old.found ≡ None → AreMade Q k old calls outcome new
      → HasQuit calls old.sink outcome new
  quits [] no_reports old outcome new whole clear (all, same) =
      unheld refl (ap (λ (w : Watch S). w.found) same ∙ clear)
      (all, ap (λ (w : Watch S). w.sink) same)
  quits (call ∷ later) (plain_report is plain joined) old outcome new whole clear reported =
      let made = first-call call later old _ new reported in
      go (λ mid none empty. quits _ joined mid _ new none empty)
      (position_of b (reported_bytes call.call)) refl made.0 made.1 (looked _ old _ _ is made.2)
      made.3
    where
      go : QuitsFrom later outcome new
          → (at : Option ℕ) → position_of b (reported_bytes call.call) ≡ at
          → (result : Result Bool E) (mid : Watch S)
          → IsLookedAt step may_call at (reported_from call.call) old k call.call result mid
          → Went call result mid later outcome new → HasQuit (call ∷ later) old.sink outcome new
      go quits_later None free result mid (same, none, made) went =
          let alone = subst (λ c. IsMadeAfter step may_call c old.sink k call.call result mid.sink)
          whole made in
          quits-report call mid _ (report-no-break _ is) (ap is_some free) alone (same ∙ clear) went
          (quits_later mid none (same ∙ clear))
      go quits_later (Some index) holds result mid (found, whole_now, (returned, ends, called))
          went =
          at-byte (call ∷ later) 0 call later _ mid index holds
          (first.position-first (holds_byte b) call later (ap is_some holds)) refl
          (none-before call later) found returned ends called went
  quits (gap ∷ call ∷ later) (broken_report off is plain same_end joined) old outcome new whole
      clear reported =
      let made = first-call gap _ old _ new reported in
      let held : (made.1 ≡ record old { has_break = true }) × (made.0 ≡ Ok true) =
      subst (λ call. Q old k call made.0 made.1) off made.2 in
      let rest : AreMade Q k (record old { has_break = true }) (call ∷ later) outcome new =
      subst (λ w. AreMade Q k w (call ∷ later) outcome new) held.0
      (subst (λ r. Went gap r made.1 (call ∷ later) outcome new) held.1 made.3) in
      let next = first-call call later _ _ new rest in
      go (λ mid none empty. quits _ joined mid _ new none empty)
      (position_of b (reported_bytes call.call)) refl next.0 next.1
      (looked _ _ _ _ is next.2) next.3
    where
      gap-free : holds_byte b gap ≡ false
      gap-free = rw off refl

      apart : holds_byte b call ≡ false → IsApart b gap (call ∷ later)
      apart free = inr (λ n at. let some = rw free at
          (first.position-is (holds_byte b) (call ∷ later) n at) in
          omega (arith, some))

      nothing : calls_before b (gap ∷ call ∷ later) 1 ≡ []
      nothing = rw off refl

      after : QuitsFrom later outcome new
          → (result : Result Bool E) (mid : Watch S) → holds_byte b call ≡ false → mid.found ≡ None
          → mid.has_break ≡ false
          → IsMadeAfter step may_call true old.sink k call.call result mid.sink
          → Went call result mid later outcome new
          → HasQuit (gap ∷ call ∷ later) old.sink outcome new
      after quits_later result mid free none whole (inl (m, may, broken, made)) went =
          quits-more gap gap-free (apart free) (rw off broken)
          (quits-report call mid _ (report-no-break _ is) free made none went
          (quits_later mid whole none))
      after quits_later result mid free none whole (inr (never, broken)) went =
          halts gap call _ later _ mid _ never same_end gap-free (apart free)
          (rw off broken) none went

      go : QuitsFrom later outcome new
          → (at : Option ℕ) → position_of b (reported_bytes call.call) ≡ at
          → (result : Result Bool E) (mid : Watch S)
          → IsLookedAt step may_call at (reported_from call.call) (record old {
            has_break = true;
          }) k call.call result mid
          → Went call result mid later outcome new → HasQuit (gap ∷ call ∷ later) old.sink outcome
          new
      go quits_later None free result mid (same, whole, made) went =
          after quits_later result mid (ap is_some free) (same ∙ clear) whole made went
      go quits_later (Some index) holds result mid (found, whole_now, (returned, ends, called))
          went =
          at-byte (gap ∷ call ∷ later) 1 call later _ mid index holds
          (first.position-later (holds_byte b) gap (call ∷ later) 0 gap-free
          (first.position-first (holds_byte b) call later (ap is_some holds))) refl nothing found
          returned ends called went

  -- and of `begin` and some calls
  pub quits-begun : (end : ℕ) {calls : List Planned} → AreReports calls
      → (old : Watch S) {outcome : Outcome E} {new : Watch S}
      → old.has_break ≡ false → old.found ≡ None
      → AreMade Q k old (planned begins end ∷ calls) outcome new
      → HasQuit (planned begins end ∷ calls) old.sink outcome new
  quits-begun end {calls} joined old {outcome} {new} whole clear reported =
      let begin : Planned = (planned begins end) in
      let made = first-call begin calls old _ new reported in
      quits-report begin _ _ refl refl made.2.2 (made.2.0 ∙ clear) made.3
      (quits _ joined _ _ new (made.2.1 ∙ whole) (made.2.0 ∙ clear))

  -- `finish` after them
  finish-passed : (outcome : Outcome E) (mid : Watch S) (count : ℕ) (finish : Finish)
      (result : Result (Unit {0}) E) (new : Watch S) → IsPlain outcome → mid.found ≡ None
      → (outcome ≡ all_true → finish ≡ counted count)
      → IsFinished Q k outcome mid (counted count) result new
      → IsFinished step k outcome mid.sink finish result new.sink
  finish-passed all_true mid count finish result new plain clear is (same, broken, made) =
      rw (is refl) (subst (λ f. step mid.sink k (finishes (count_to f count) f)
      (finish_result result) new.sink) clear made)
  finish-passed (stopped if_false) mid count finish result new plain clear is (same, broken, made) =
      subst (λ f. step mid.sink k (finishes if_false.count f) (finish_result result) new.sink)
      (sym plain)
      (subst (λ f. step mid.sink k (finishes (count_to f if_false.count) f) (finish_result result)
      new.sink) clear made)
  finish-passed (failed e) mid count finish result new plain clear is (fails, same) =
      (fails, ap (λ (w : Watch S). w.sink) same)

  pub quits-run : {calls : List Planned} {old : S} (count : ℕ) {outcome : Outcome E} {mid : Watch S}
      {result : Result (Unit {0}) E} (new : Watch S) → IsPlain outcome
      → HasQuit calls old outcome mid → IsFinished Q k outcome mid (counted count) result new
      → IsRun step k old (plan_with (Quit b) (point_unless b calls None) (plan_of calls count))
      result new.sink
  quits-run count {outcome} {mid} {result} new plain (unheld none clear reported) finished =
      rw none (record {
        outcome = outcome;
        mid = mid.sink;
        made = reported;
        finished = finish-passed _ mid count _ _ new plain clear (λ is. refl) finished;
      })
  quits-run {calls} {old} count {outcome} {mid} {result} new plain
      (ended_before n is clear some reported) finished =
      rw is (record {
        outcome = outcome;
        mid = mid.sink;
        made = AreMade-ended step k _ _ old _ _ some reported;
        finished = finish-passed _ mid count _ _ new plain clear (λ is. absurd (some is)) finished;
      })
  quits-run {calls} {old} count {outcome} {mid} {result} new plain
      (ended_at n is found last reported returned called end) finished =
      rw is (at returned called end finished)
    where
      offset : ℕ
      offset = offset_at b calls n

      closed : (end : Finish) → outcome ≡ stopped end → IsFinished Q k outcome mid (counted count)
          result new
          → step mid.sink k (finishes offset (Some offset)) (finish_result result) new.sink
      closed end stops finished =
          let made = subst (λ o. IsFinished Q k o mid (counted count) result new) stops finished in
          subst (λ f. step mid.sink k (finishes (count_to f end.count) f) (finish_result result)
          new.sink) found made.2

      with-binary : (o : Outcome E) → AreMade step k last (planned_binary (point_at b calls n) ∷ [])
          o mid.sink
          → AreMade step k old (calls_before b calls n ++ planned_binary (point_at b calls n) ∷ [])
          o mid.sink
      with-binary o made =
          AreMade-append step k _ _ old last o _ reported made

      at : (returned : Result Bool E) → step last k (binary_data offset) returned mid.sink
          → IsEnd outcome returned → IsFinished Q k outcome mid (counted count) result new
          → IsRun step k old (plan_with (Quit b) (Some (point_at b calls n)) (plan_of calls count))
          result new.sink
      at (Ok true) called (end, stops) finished = record {
        outcome = all_true;
        mid = mid.sink;
        made = with-binary all_true (inl (mid.sink, called, (refl, refl)));
        finished = closed end stops finished;
      }
      at (Ok false) called (end, stops) finished = record {
        outcome = stopped (with_offset offset (counted offset));
        mid = mid.sink;
        made = with-binary _ (inr (inl (refl, called)));
        finished = closed end stops finished;
      }
      at (Err e) called fails finished =
          let made = subst (λ o. IsFinished Q k o mid (counted count) result new) fails
          finished in record {
            outcome = failed e;
            mid = mid.sink;
            made = with-binary (failed e) (inr (inr (e, refl, called)));
            finished = (made.0, ap (λ (w : Watch S). w.sink) made.1);
          }

  -- all of them were made: no report holds the byte
  pub quits-all : {calls : List Planned} {old : S} {new : Watch S} → HasQuit calls old all_true new
      → (position (holds_byte b) calls ≡ None) × AreMade step k old calls all_true new.sink
  quits-all (unheld none clear reported) = (none, reported)
  quits-all (ended_before n is clear some reported) = absurd (some refl)
  quits-all (ended_at n is found last reported (Ok goes_on) called (end, stops)) =
      cc
  quits-all (ended_at n is found last reported (Err e) called fails) = cc

-- a call of a search that returned false leaves it without
made-plain : {S E : Type 0} (step : Steps S E) (k : Settings) (calls : List Planned)
    → AreReports calls → (old : S)
    (outcome : Outcome E) (new : S) → AreMade step k old calls outcome new → IsPlain outcome
made-plain step k [] no_reports old outcome new (is, same) = subst IsPlain (sym is) tt
made-plain step k (call ∷ later) (plain_report report plain rest) old outcome new
    (inl (mid, made, more)) =
    made-plain step k later rest mid _ new more
made-plain step k (gap ∷ call ∷ later) (broken_report off report plain same rest) old outcome new
    (inl (mid, made, more)) =
    made-plain step k (call ∷ later) (plain_report report plain rest) mid _ new more
made-plain step k (call ∷ later) (plain_report report plain rest) old outcome new
    (inr (inl (is, made))) =
    subst IsPlain (sym is) plain
made-plain step k (gap ∷ call ∷ later) (broken_report off report plain same rest) old outcome new
    (inr (inl (is, made))) =
    subst IsPlain (sym (is ∙ ap (λ f. stopped f) same)) plain
made-plain step k (call ∷ later) are old outcome new (inr (inr (e, is, made))) =
    subst IsPlain (sym is) tt

module _ {S E : Type 0} (step : Steps S E) (may_call : S → Type 0) (k : Settings) (b : ℕ) where
  -- the same calls, without the reference
  watched : (calls : List Planned) (old : Quitting S) (outcome : Outcome E) (new : Quitting S)
      → old.byte ≡ b → AreMade (Quits step may_call) k old calls outcome new
      → (new.byte ≡ b) × AreMade (IsQuittingStep step may_call b) k (watch_of old) calls outcome
      (watch_of new)
  watched [] old outcome new is (all, same) =
      (ap (λ (q : Quitting S). q.byte) same ∙ is, (all, ap watch_of same))
  watched (call ∷ later) old outcome new is (inl (mid, made, rest)) =
      let next = watched later mid _ new (made.1 ∙ is) rest in (
        next.0,
        inl (
          watch_of mid,
          rw (sym is) made.2,
          next.1,
        ),
      )
  watched (call ∷ later) old outcome new is (inr (inl (stops, made))) = (
    made.1 ∙ is,
    inr (inl (
      stops,
      rw (sym is) made.2,
    )),
  )
  watched (call ∷ later) old outcome new is (inr (inr (e, fails, made))) = (
    made.1 ∙ is,
    inr (inr (
      e,
      fails,
      rw (sym is) made.2,
    )),
  )

  -- a search by a sink that has made no call yet ended in `finish`
  until-run : {calls : List Planned} → AreReports calls → (count : ℕ) {old : Quitting S}
      → old.byte ≡ b → old.has_break ≡ false
      → old.found ≡ None → {result : Result (Unit {0}) E} {new : Quitting S}
      → IsRun (Quits step may_call) k old (plan_of (planned begins 0 ∷ calls) count) result new
      → IsRun step k old.sink.now
      (plan_with (Quit b) (point_unless b (planned begins 0 ∷ calls) None)
      (plan_of (planned begins 0 ∷ calls) count)) result new.sink.now
  until-run {calls} are count {old} is whole clear {result} {new} run =
      let all : List Planned = planned begins 0 ∷ calls in
      let made = watched all old _ _ is run.made in
      quits-run step may_call k b count _ (plain run.made)
      (quits-begun step may_call k b 0 are _ whole clear made.1)
      (closed run.outcome made.0 run.finished)
    where
      plain : AreMade (Quits step may_call) k old (planned begins 0 ∷ calls) run.outcome run.mid
          → IsPlain run.outcome
      plain (inl (mid, made, rest)) = made-plain (Quits step may_call) k calls are mid _ _ rest
      plain (inr (inl (is, made))) = subst IsPlain (sym is) refl
      plain (inr (inr (e, is, made))) = subst IsPlain (sym is) tt

      closed : (outcome : Outcome E) → run.mid.byte ≡ b
          → IsFinished (Quits step may_call) k outcome run.mid (counted count) result new
          → IsFinished (IsQuittingStep step may_call b) k outcome (watch_of run.mid) (counted count)
          result (watch_of new)
      closed all_true same finished =
          finished.2
      closed (stopped finish) same finished =
          finished.2
      closed (failed e) same (fails, stays) = (fails, ap watch_of stays)

module _ (k : Settings) (meaning : Meaning) (bytes : List ℕ) where
  -- the calls after `begin`
  abbrev after : Bool → List Planned
  after true = joined_from (calls_at k bytes (touched_lines k meaning bytes)) 0 (line_count k bytes)
  after false = joined_from (calls_at k bytes (selected_lines k meaning bytes)) 0
      (reports_end k meaning bytes)

  are-reports : (across : Bool) → AreReports (after across)
  are-reports true = pairs.calls-across k meaning bytes
  are-reports false = pairs.calls-by_line k meaning bytes

-- where the byte is in the bytes that are looked at first
pub first-found : (b : ℕ) (bytes : List ℕ) {n : ℕ} {found : Option ℕ} → n
    ≡ min (length bytes) first_look
    → IsFirstByte (is_byte b) (take n bytes) found → position_of b (take first_look bytes) ≡ found
first-found b bytes {n} {found} is first =
    ap (position_of b) (sym (ap (λ m. take m bytes) (is ∙ min_comm (length bytes) first_look)
    ∙ take_min first_look bytes)) ∙ position-found b _ found first

-- `begin`, `binary_data` and `finish`, whatever the second returned
pub first-quit : {S E : Type 0} {step : Steps S E} {k : Settings} (offset : ℕ) {old : S}
    (first mid : S) {new : S} (goes_on : Bool)
    {result : Result (Unit {0}) E} → step old k begins (Ok true) first
    → step first k (binary_data offset) (Ok goes_on) mid
    → step mid k (finishes 0 (Some offset)) (finish_result result) new
    → IsRun step k old (first_quit offset) result new
first-quit offset first mid true begun called finish = record {
  outcome = all_true;
  mid = mid;
  made = inl (first, begun, inl (mid, called, (refl, refl)));
  finished = finish;
}
first-quit offset first mid false begun called finish = record {
  outcome = stopped (with_offset offset (counted 0));
  mid = mid;
  made = inl (first, begun, inr (inl (refl, called)));
  finished = finish;
}

-- a search that ended before its first line
pub quit-searched : {S E F : Type 0} {step : Steps S E} (errors : ErrorMakers F E)
    (matcher : MatcherFacts F)
    {k : Settings} (b : ℕ) → k.binary_detection ≡ Quit b → (bytes : List ℕ) (across : Bool)
    (offset : ℕ)
    → position_of b (take first_look bytes) ≡ Some offset → {old : S} {result : Result (Unit {0}) E}
    {new : S} → IsRun step k old (first_quit offset) result new
    → IsContentsSearch step errors matcher k (in_contents b) across bytes old result new
quit-searched {step} errors matcher {k} b detects bytes across offset is {old} {result} {new} run =
    quit-ran step errors matcher k bytes old b detects (run-until across)
  where
    run-until : (across : Bool) → IsRun step k old
        (plan_with (Quit b) (contents_point b bytes (plan_in k matcher.meaning bytes across).calls)
        (plan_in k matcher.meaning bytes across)) result new
    run-until true = rw is run
    run-until false = rw is run

module _ {S E F : Type 0} (step : Steps S E) (may_call : S → Type 0) (errors : ErrorMakers F E)
    (matcher : MatcherFacts F)
    (k : Settings) (b : ℕ) (detects : k.binary_detection ≡ Quit b) (bytes : List ℕ)
    (none : position_of b (take first_look bytes) ≡ None) (old : Quitting S) (is : old.byte ≡ b)
    (whole : old.has_break ≡ false) (clear : old.found ≡ None) (across : Bool) where
  abbrev IsSearched : Result (Unit {0}) E → Quitting S → Type 0
  IsSearched result new =
      IsContentsSearch step errors matcher k (in_contents b) across bytes old.sink.now result
      new.sink.now

  -- a search that ended in `finish`
  searched-until : {result : Result (Unit {0}) E} {new : Quitting S}
      → IsRun (Quits step may_call) k old (plan_in k matcher.meaning bytes across) result new
      → IsSearched result new
  searched-until {result} {new} run =
      quit-ran step errors matcher k bytes old.sink.now b detects (run-until across run)
    where
      run-until : (across : Bool) → IsRun (Quits step may_call) k old
          (plan_in k matcher.meaning bytes across) result new → IsRun step k old.sink.now
          (plan_with (Quit b) (contents_point b bytes
          (plan_in k matcher.meaning bytes across).calls)
          (plan_in k matcher.meaning bytes across)) result new.sink.now
      run-until true run =
          rw none (until-run _ may_call k b (are-reports k matcher.meaning bytes true)
          _ is whole clear run)
      run-until false run =
          rw none (until-run _ may_call k b (are-reports k matcher.meaning bytes false)
          _ is whole clear run)

  -- the matcher's error came after calls that were all made: those whose count is at most some
  -- offset
  asked-until : {calls : List Planned} → AreReports calls → (offset : ℕ) (haystack : List ℕ)
      (error : F) {made : List Planned} {e : E} (new : Quitting S) → made
      ≡ through offset (planned begins 0 ∷ calls)
      → IsAskedIn k matcher.meaning bytes across haystack made → matcher.fails haystack error
      → errors.is_message error e → AreMade (Quits step may_call) k old made all_true new
      → IsSearched (Err e) new
  asked-until {calls} all offset haystack error {made} new before asks fails message reported =
      let later : List Planned = through offset calls in
      let begun : made ≡ planned begins 0 ∷ later = before
      ∙ (rw (le-leb 0 offset (omega arith)) refl) in
      let seen = watched step may_call k b made old _ new is reported in
      let calls = quits-all step may_call k b (quits-begun step may_call k b 0
      (pairs.calls-through _ calls all) _ whole clear
      (subst (λ l. AreMade (IsQuittingStep step may_call b) k (watch_of old) l all_true
      (watch_of new)) begun seen.1)) in
      asked haystack error made asks fails message (
        None,
        sym (rw none (subst (λ l. point_unless b l None ≡ None) (sym begun) (rw calls.0 refl))),
        (λ quits. refl),
        subst (λ l. AreMade step k old.sink.now l all_true new.sink.now) (sym begun) calls.1,
      )

  -- a search that ended in an error before
  pub fault-until : {e : E} {new : Quitting S}
      → IsContentsSearch (Quits step may_call) errors matcher k nowhere across bytes old (Err e) new
      → IsSearched (Err e) new
  fault-until {e} {new} (ran point never run read) = searched-until (subst
      (λ o. IsRun (Quits step may_call) k old
      (plan_with k.binary_detection o (plan_in k matcher.meaning bytes across)) (Err e) new) never
      run)
  fault-until {e} {new} (asked haystack error made asks fails message goes) =
      asked-until (are-reports k matcher.meaning bytes across) (start k bytes asks.index) haystack
      error new (listed across asks) asks fails message
      (subst (λ o. AreMade (Quits step may_call) k old (calls_with o made) all_true new) goes.1
      goes.3)
    where
      listed : (across : Bool) (asks : IsAskedIn k matcher.meaning bytes across haystack made)
          → made ≡ through (start k bytes asks.index) (planned begins 0
          ∷ after k matcher.meaning bytes across)
      listed true asks = asks.before
      listed false asks = asks.before

  -- `finish` ends what was counted
  pub until-finished : {count : ℕ} {outcome : Outcome E} {mid : Quitting S}
      (result : Result (Unit {0}) E) (new : Quitting S)
      → IsMadeTo (Quits step may_call) k old (plan_in k matcher.meaning bytes across) outcome
      (counted count) mid
      → Quits step may_call mid k (finishes count None) (finish_result result) new
      → IsSearched result new
  until-finished {count} {outcome} {mid} result new counted finish =
      searched-until (run-finish _ k old _ _ _ mid _ new counted finish)
