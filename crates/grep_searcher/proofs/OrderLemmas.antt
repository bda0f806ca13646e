-- ReadsSince in order of a sink that passes them on: one to which the first binary byte is noted, and
-- one that looks for a byte in each report.
use Rattle.std.proofs.Common.{◌≡◌, ℕ, Bool, true, false, Option, Some, None, length, List, [], refl}
use Rattle.std.proofs.Common.{sym, ap, subst, ◌∙◌, inl, inr, ◌+◌, ◌∷◌, ◌≤◌, arith, suc}
use Rattle.std.specs.Prelude.{Result, Ok, Err, ◌&&◌}
use Rattle.grep_searcher.proofs.StreamViewLemmas.{undetected}
use Rattle.std.specs.Option.{option_map}
use Rattle.std.proofs.lemmas.Option.{none-some}
use Rattle.std.proofs.lemmas.Bool.{false≢true}
use Rattle.std.proofs.lemmas.List.Elements.{All-nil, All-cons}
use Rattle.std.specs.declared.io.Error.{Error}
use Rattle.grep_decode.specs.DecoderStates.{ReadsSince, DecoderState, Decodes}
use Rattle.grep_decode.specs.Source.{ReadResult}
use Rattle.grep_definitions.specs.Searches.{is_detecting, planned_binary, IsReadingError, IsInOrder}
use Rattle.grep_definitions.specs.Searches.{ran_in_order, comes_between, HasFailedRead}
use Rattle.grep_definitions.specs.CallOrder.{AreInner, HasCalled, HasCalledTo, binary_count}
use Rattle.grep_definitions.specs.MatchedLines.{calls_of_lines}
use Rattle.grep_report.specs.ErrorMakers.{ErrorMakers}
use Rattle.grep_matcher.specs.Meanings.{MatcherFacts}
use Rattle.grep_definitions.specs.Plans.{Settings, Call, begins, matches, context, breaks}
use Rattle.grep_definitions.specs.Plans.{binary_data, finishes, Steps, all_true, stopped, failed}
use Rattle.grep_definitions.specs.Plans.{IsRun, Planned, counted, planned, is_binary_data}
use Rattle.grep_definitions.specs.Plans.{AreMade, Outcome}
use Rattle.grep_definitions.specs.SinkRuns.{outcome_of}
use Rattle.grep_definitions.proofs.CallOrderLemmas as order
use Rattle.grep_searcher.specs.declared.search.quitting.Quitting.{Quitting}
use Rattle.grep_searcher.specs.BinaryCalls.{FailsAtBinary, Noted, PassesBinary}
use Rattle.grep_searcher.specs.SearchBuffers.{IsMadeOf, detection_of}
use Rattle.grep_line_buffer.specs.BufferStates.{BufferState, held_bytes}
use Rattle.grep_line_buffer.specs.Detections.{first_of, found_in}
use Rattle.grep_report.specs.declared.binary_detection.BinaryDetection.{BinaryDetection}
use Rattle.grep_line_buffer.specs.declared.fill_error.FillError.{FillError}
use Rattle.grep_line_buffer.specs.declared.fill_error.FillError.TheVariants.{Read, HeapLimit}
use Rattle.grep_line_buffer.specs.declared.fill_error.FillError.TheVariants.{Offset, Memory}
use Rattle.grep_searcher.specs.QuittingSinks.{IsLookedAt, IsMadeAfter, Quits, count_to, end_result}
use Rattle.grep_searcher.specs.QuittingSinks.{watch_of, first_quit}
use Rattle.grep_report.specs.SinkReports.{no_surroundings}

-- a fill finds no byte if none is looked for
pub clear-filled : (d : BinaryDetection) (old new : BufferState) (given : List ℕ)
    → new.binary ≡ first_of old.binary (option_map (λ i. old.offset + length (held_bytes old) + i)
    (found_in old.detection old.terminator given))
    → old.detection ≡ detection_of d → (is_detecting d ≡ false → old.binary ≡ None) → is_detecting d
    ≡ false → new.binary ≡ None
clear-filled d old new given found is clear none = found ∙ rw (clear none, is, undetected d none)
    refl

-- calls of matches may come between `begin` and `finish`
matches-inner : (k : Settings) (number : Option ℕ) (index offset : ℕ) (ls : List (List ℕ))
    → AreInner k (calls_of_lines number index offset ls)
matches-inner k number index offset [] = All-nil (order.IsInner k)
matches-inner k number index offset (line ∷ later) =
    All-cons (order.IsInner k) (planned (matches (option_map (λ first. first + index) number) offset line no_surroundings)
    (offset + length line)) _ refl
    (matches-inner k number (suc index) (offset + length line) later)

matches-few : (number : Option ℕ) (index offset : ℕ) (ls : List (List ℕ))
    → binary_count (calls_of_lines number index offset ls) ≡ 0
matches-few number index offset [] = refl
matches-few number index offset (line ∷ later) = omega (
  arith,
  order.binary-cons (planned (matches (option_map (λ first. first + index) number) offset line no_surroundings)
      (offset + length line)) (calls_of_lines number (suc index) (offset + length line) later),
  matches-few number (suc index) (offset + length line) later,
)

pub called-matches : {S E : Type 0} (step : Steps S E) (k : Settings) (number : Option ℕ)
    (index offset : ℕ) (ls : List (List ℕ)) (old : S) (outcome : Outcome E) (new : S)
    → AreMade step k old (calls_of_lines number index offset ls) outcome new
    → HasCalled step k 0 old outcome new
called-matches step k number index offset ls old outcome new made = record {
  calls = calls_of_lines number index offset ls;
  inner = matches-inner k number index offset ls;
  few = omega (arith, matches-few number index offset ls);
  reported = made;
}

and-left : (a b : Bool) → (a && b) ≡ true → a ≡ true
and-left true b is = refl
and-left false b is = cc

module _ {R : Type 0} (remaining : R → Option (List ℕ)) (read_step : R → ReadResult → R → Type 0)
    (reader : R) where
  -- a decoder that has just been started read until a call failed
  pub failed-read : {old new : DecoderState} {mid reader' : R} {given : List ℕ} {e : Error}
      → old.has_ended ≡ false
      → Decodes remaining read_step old reader given new mid → new.has_ended ≡ false
      → read_step mid (Err e) reader' → HasFailedRead remaining read_step reader e reader'
  failed-read {new} {mid} started decodes unended last = (
    mid,
    record {
      ended = false;
      pieces = decodes.pieces;
      calls = subst (λ b. ReadsSince remaining read_step false b reader decodes.pieces mid) unended
          (subst (λ b. ReadsSince remaining read_step b new.has_ended reader decodes.pieces mid) started
          decodes.calls);
      takes = decodes.takes;
    },
    refl,
    last,
  )

  -- the error of reading that an error of a line buffer becomes
  pub reading-error : (reader' : R) (fault : FillError) (error : Error)
      → ((e : Error) → fault ≡ Read e → HasFailedRead remaining read_step reader e reader')
      → IsMadeOf fault error → IsReadingError remaining read_step reader reader' error
  reading-error reader' (Read e) error fails is =
      inl (rw is (fails e refl))
  reading-error reader' HeapLimit error fails is = inr (inl is)
  reading-error reader' Offset error fails is = inr (inr (inl is))
  reading-error reader' Memory error fails is = inr (inr (inr is))

-- how many binary bytes were reported, by whether the offset of one is known
abbrev pub known_count : Option ℕ → ℕ
known_count None = 0
known_count (Some offset) = 1

-- at most once
pub once : (binary : Option ℕ) → known_count binary ≤ 1
once None = omega arith
once (Some offset) = omega arith

module _ {S E : Type 0} (step : Steps S E) (k : Settings) where
  -- what a call came to, by what it returned
  call-passes : {old new : S} {call : Call} (end : ℕ) {result : Result Bool E}
      → comes_between (is_detecting k.binary_detection) call ≡ true → is_binary_data call ≡ false
      → step old k call result new → HasCalled step k 0 old (outcome_of end result) new
  call-passes {old} {new} {call} end {result} inner plain made =
      order.called-one step k _ end old _ new made inner plain

  stopped-to : {bound : ℕ} {old new : S} (end : ℕ)
      → HasCalled step k bound old (stopped (counted end)) new
      → HasCalledTo step k bound old end new
  stopped-to end called = record { outcome = stopped (counted end); ends = refl; called = called }

  -- a binary byte of a buffer is noted
  module _ (binary : Option ℕ) (none : is_detecting k.binary_detection ≡ false → binary ≡ None)
      (old new : Noted S)
    where
      detected : (offset : ℕ) → binary ≡ Some offset → is_detecting k.binary_detection ≡ true
      detected offset is = go (is_detecting k.binary_detection) refl
        where
          go : (b : Bool) → is_detecting k.binary_detection ≡ b → is_detecting k.binary_detection
              ≡ true
          go true same = same
          go false same = absurd (none-some offset (sym (none same) ∙ is))

      -- no offset is known if no byte is looked for
      pub clear-passed : (goes_on : Bool) → (is_detecting k.binary_detection ≡ false → old.binary
          ≡ None)
          → PassesBinary step k binary old goes_on new → is_detecting k.binary_detection ≡ false
          → new.binary ≡ None
      clear-passed goes_on clear (inl (offset, is, unknown, now, called)) blind =
          absurd (none-some offset (sym (none blind) ∙ is))
      clear-passed goes_on clear (inr (why, goes, same)) blind = ap (λ (n : Noted S). n.binary) same
          ∙ clear blind

      -- the calls so far with it: at most one call is `binary_data`
      module _ (start : S) (so_far : HasCalled step k (known_count old.binary) start all_true
          old.sink) where
        before : old.binary ≡ None → HasCalled step k 0 start all_true old.sink
        before unknown = subst (λ b. HasCalled step k (known_count b) start all_true old.sink)
            unknown so_far

        pub passes-on : PassesBinary step k binary old true new
            → HasCalled step k (known_count new.binary) start all_true new.sink
        passes-on (inl (offset, is, unknown, now, (returned, called, goes))) =
            let true_is : returned ≡ true = and-left _ _ (sym goes) in
            subst (λ b. HasCalled step k (known_count b) start all_true new.sink) (sym now)
            (order.called-after _ k (omega arith) _ _ _ _ (before unknown)
            (order.called-binary _ k _ 0 _ _ _
            (subst (λ r. step old.sink k (binary_data offset) (Ok r) new.sink) true_is called)
            (detected _ is)))
        passes-on (inr (why, goes, same)) =
            subst (λ (n : Noted S). HasCalled step k (known_count n.binary) start all_true n.sink)
            (sym same) so_far

        pub passes-off : {count : ℕ} → PassesBinary step k binary old false new
            → HasCalledTo step k 1 start count new.sink
        passes-off {count} (inl (offset, is, unknown, now, (returned, called, goes))) =
            order.called-after-to _ k (omega arith) _ _ _ _ (before unknown) (go returned called)
          where
            go : (returned : Bool) → step old.sink k (binary_data offset) (Ok returned) new.sink
                → HasCalledTo step k 1 old.sink count new.sink
            go true called = record {
              outcome = all_true;
              ends = tt;
              called = order.called-binary _ k _ count _ _ _ called (detected _ is);
            }
            go false called = stopped-to count
                (order.called-binary _ k _ count _ _ _ called (detected _ is))
        passes-off (inr (why, goes, same)) = cc

        pub fails-at : (e : E) → FailsAtBinary step k binary old e new
            → HasCalled step k 1 start (failed e) new.sink
        fails-at e (offset, is, unknown, called) =
            order.called-after _ k (omega arith) _ _ _ _ (before unknown)
            (order.called-binary _ k _ 0 _ _ _ called (detected _ is))

  module _ (may_call : S → Type 0) (detecting : is_detecting k.binary_detection ≡ true) where
    -- no byte was found yet
    abbrev pub FoundNone : Quitting S → Type 0
    FoundNone q = q.found ≡ None

    abbrev QuitPasses : Quitting S → Result Bool E → ℕ → Quitting S → Type 0
    QuitPasses = order.Passes step (Quits step may_call) k (λ q. q.sink.now) FoundNone
        (λ q count. count_to q.found count)

    -- a call that is made, and the break before it that was held back
    made-after : (has_break : Bool) {old new : S} (call : Call) (end : ℕ) (result : Result Bool E)
        → comes_between (is_detecting k.binary_detection) call ≡ true → is_binary_data call ≡ false
        → IsMadeAfter step may_call has_break old k call result new
        → HasCalled step k 0 old (outcome_of end result) new
    made-after false {old} {new} call end result inner plain made = call-passes end inner plain made
    made-after true {old} {new} call end result inner plain (inl (mid, may, gap, made)) =
        order.called-then _ k old mid _ new (call-passes end refl refl gap)
        (call-passes end inner plain made)
    made-after true {old} {new} call end result inner plain (inr (ends, gap)) =
        call-passes end refl refl gap

    -- what is made while no byte is found
    clear : (old : Quitting S) (result : Result Bool E) (end : ℕ) (new : Quitting S) → new.found
        ≡ None → HasCalled step k 0 old.sink.now (outcome_of end result) new.sink.now
        → QuitPasses old result end new
    clear old (Ok true) end new none called = (none, called)
    clear old (Ok false) end new none called =
        rw none (stopped-to end (most called))
      where
        most : HasCalled step k 0 old.sink.now (stopped (counted end)) new.sink.now
            → HasCalled step k 1 old.sink.now (stopped (counted end)) new.sink.now
        most = order.called-most _ k (omega arith) _ _ _
    clear old (Err e) end new none called =
        order.called-most _ k (omega arith) _ _ _ called

    -- a byte is found in a report
    quits : (old : Quitting S) {result : Result Bool E} (end offset : ℕ) (new : Quitting S)
        → new.found ≡ Some offset → (returned : Result Bool E) → result ≡ end_result returned
        → step old.sink.now k (binary_data offset) returned new.sink.now
        → QuitPasses old result end new
    quits old end offset new is (Ok goes_on) ends made =
        rw (ends, is) (go goes_on made)
      where
        go : (goes_on : Bool) → step old.sink.now k (binary_data offset) (Ok goes_on) new.sink.now
            → HasCalledTo step k 1 old.sink.now offset new.sink.now
        go true made =
            record {
              outcome = all_true;
              ends = tt;
              called = order.called-binary _ k _ offset _ _ _ made detecting;
            }
        go false made =
            stopped-to _ (order.called-binary _ k _ _ _ _ _ made detecting)
    quits old end offset new is (Err e) ends made =
        rw ends (order.called-binary _ k _ end _ _ _ made detecting)

    looked-at : (found : Option ℕ) (from : ℕ) (call : Call) (end : ℕ) (old : Quitting S)
        (result : Result Bool E) (new : Quitting S)
        → comes_between (is_detecting k.binary_detection) call ≡ true → is_binary_data call ≡ false
        → old.found ≡ None → IsLookedAt step may_call found from (watch_of old) k call result
        (watch_of new) → QuitPasses old result end new
    looked-at None from call end old result new inner plain none (same, unbroken, made) =
        clear old _ end new (same ∙ none) (made-after _ call end _ inner plain made)
    looked-at (Some index) from call end old result new inner plain none (
      is,
      unbroken,
      (returned, ends, made),
    ) =
        quits old end _ new is _ ends made

    pub quits-one : (call : Call) (end : ℕ) (old : Quitting S) (result : Result Bool E)
        (new : Quitting S)
        → comes_between (is_detecting k.binary_detection) call ≡ true → is_binary_data call ≡ false
        → FoundNone old → Quits step may_call old k call result new → QuitPasses old result end new
    quits-one begins end old result new inner plain none made = cc
    quits-one (matches number from bytes around) end old result new inner plain none (name, byte, made) =
        looked-at _ from _ end old _ new refl refl none made
    quits-one (context kind number from bytes) end old result new inner plain none
        (name, byte, made) =
        looked-at _ from _ end old _ new refl refl none made
    quits-one breaks end old result new inner plain none (name, byte, (held, goes)) =
        subst (λ r. QuitPasses old r end new) (sym goes) (
          ap (λ w. w.found) held ∙ none,
          subst (λ s. HasCalled step k 0 old.sink.now all_true s) (sym (ap (λ w. w.sink) held))
              (order.called-none _ k _),
        )
    quits-one (binary_data offset) end old result new inner plain none made =
        absurd (false≢true (sym plain))
    quits-one (finishes count binary) end old result new inner plain none made = cc

    pub quits-begun : (old : Quitting S) (result : Result Bool E) (new : Quitting S) → FoundNone old
        → Quits step may_call old k begins result new → FoundNone new
        × step old.sink.now k begins result new.sink.now
    quits-begun old result new none (name, byte, (same, unbroken, made)) = (same ∙ none, made)

    -- a search that ends at a byte before its first line
    pub quit-in-order : {F : Type 0} {errors : ErrorMakers F E} {matcher : MatcherFacts F}
        {IsOfReading : Error → Type 0}
        (offset : ℕ) {old : S} {result : Result (Unit {0}) E} {new : S}
        → IsRun step k old (first_quit offset) result new
        → IsInOrder step errors matcher k IsOfReading old result new
    quit-in-order offset run =
        let quit : Planned = planned_binary (record { position = 1; offset = offset; count = 0 }) in
        ran_in_order (first_quit offset) (record {
          first = planned begins 0;
          later = quit ∷ [];
          all = refl;
          begin = (refl, refl);
          inner = All-cons (order.IsInner k) quit [] detecting (All-nil (order.IsInner k));
          once = omega (arith, order.binary-cons quit []);
          plain = λ none. absurd (false≢true (sym none ∙ detecting));
        }) (λ none. absurd (false≢true (sym none ∙ detecting))) run

    pub quits-held : (new : Quitting S) (count : ℕ) → FoundNone new → count_to new.found count
        ≡ count
    quits-held new count none = ap (λ found. count_to found count) none
