-- Calls in order, put together.
use Rattle.std.proofs.Common.{◌≡◌, ℕ, inl, inr, List, [], ◌∷◌, ◌++◌, Bool, true, false, refl, sym}
use Rattle.std.proofs.Common.{subst, ap, ◌∙◌, Option, None, map, arith, cond}
use Rattle.std.specs.Prelude.{Result, Ok, Err, ◌+◌, ◌≤◌}
use Rattle.std.proofs.lemmas.List.Sums.{sum_by-append, sum_by-cons}
use Rattle.std.specs.declared.io.Error.{Error}
use Rattle.std.proofs.lemmas.List.Elements.{All-nil, All-cons, All-append, All-head, All-tail}
use Rattle.std.proofs.lemmas.List.Elements.{All-map}
use Rattle.grep_definitions.specs.Searches.{is_detecting, AreInOrder, HasBegun, IsInOrder}
use Rattle.grep_definitions.specs.Searches.{ran_in_order, asked_in_order, read_in_order}
use Rattle.grep_definitions.specs.Searches.{comes_between}
use Rattle.grep_definitions.specs.CallOrder.{AreInner, EndsAt, HasCalled, HasBegunWith, HasCalledTo}
use Rattle.grep_definitions.specs.CallOrder.{HasBegunTo, HasFailedIn, of_call, of_question}
use Rattle.grep_definitions.specs.CallOrder.{BeginsInOrder, EndsInOrder, GoesOnInOrder}
use Rattle.grep_definitions.specs.CallOrder.{ReadsInOrder, binary_count}
use Rattle.grep_report.specs.ErrorMakers.{ErrorMakers}
use Rattle.grep_matcher.specs.Meanings.{MatcherFacts}
use Rattle.grep_definitions.specs.Plans.{Settings, Call, Planned, begins, finishes}
use Rattle.grep_definitions.specs.Plans.{Steps, Outcome, all_true, stopped, failed}
use Rattle.grep_definitions.specs.Plans.{finish_result, AreMade, IsFinished, binary_data}
use Rattle.grep_definitions.specs.Plans.{counted, is_binary_data, planned}
use Rattle.grep_definitions.specs.LineCalls.{before_calls, selected_calls}
use Rattle.grep_definitions.specs.LineCalls.{one_call}
use Rattle.grep_definitions.specs.SinkRuns.{outcome_of, with_binary}
use Rattle.grep_definitions.proofs.SinkRunLemmas.{AreMade-append, AreMade-one, made-binary}
use Rattle.grep_definitions.proofs.SinkRunLemmas.{outcome_with}
use Rattle.grep_report.specs.SinkReports.{Surroundings}

-- a planned call between `begin` and `finish`
abbrev pub IsInner : Settings → Planned → Type 0
IsInner k call = comes_between (is_detecting k.binary_detection) call.call ≡ true

pub inner-one : (k : Settings) (call : Call) (end : ℕ)
    → comes_between (is_detecting k.binary_detection) call ≡ true → AreInner k (one_call call end)
inner-one k call end inner = All-cons (IsInner k) (planned call end) [] inner (All-nil (IsInner k))

-- how many calls are `binary_data`
binary-append : (front back : List Planned) → binary_count (front ++ back) ≡ binary_count front
    + binary_count back
binary-append = sum_by-append (λ call. cond (is_binary_data call.call) 1 0)

pub binary-cons : (call : Planned) (later : List Planned)
    → binary_count (call ∷ later) ≡ cond (is_binary_data call.call) 1 0 + binary_count later
binary-cons = sum_by-cons (λ call. cond (is_binary_data call.call) 1 0)

binary-with : (binary : Option ℕ) (calls : List Planned)
    → binary_count (map (with_binary binary) calls) ≡ binary_count calls
binary-with binary [] = refl
binary-with binary (call ∷ later) =
    binary-cons (with_binary binary call) (map (with_binary binary) later)
    ∙ (ap (λ n. cond (is_binary_data call.call) 1 0 + n) (binary-with binary later)
    ∙ sym (binary-cons call later))

-- one call that isn't, also after a break
binary-one : (call : Call) (end : ℕ) → is_binary_data call ≡ false
    → binary_count (one_call call end) ≡ 0
binary-one call end plain = binary-cons (planned call end) [] ∙ ap (λ b. cond b 1 0 + 0) plain

-- none of the calls is if at most none is
none-binary : (call : Planned) (later : List Planned) → binary_count (call ∷ later) ≤ 0
    → (is_binary_data call.call ≡ false) × (binary_count later ≤ 0)
none-binary call later few = go (is_binary_data call.call) refl
  where
    go : (b : Bool) → is_binary_data call.call ≡ b → (is_binary_data call.call ≡ false)
        × (binary_count later ≤ 0)
    go true is =
        let one : cond (is_binary_data call.call) 1 0 ≡ 1 = ap {B = ℕ} (λ b. cond b 1 0) is in
        absurd (omega (arith, few, binary-cons call later, one))
    go false is = (is, omega (arith, few, binary-cons call later))

module _ {S E : Type 0} (step : Steps S E) (k : Settings) where
  -- no call
  pub called-none : {bound : ℕ} (old : S) → HasCalled step k bound old all_true old
  called-none old = record {
    calls = [];
    inner = All-nil (IsInner k);
    few = omega arith;
    reported = (refl, refl);
  }

  -- one call, by what it returned
  pub called-one : {bound : ℕ} (call : Call) (end : ℕ) (old : S) (result : Result Bool E) (new : S)
      → step old k call result new → comes_between (is_detecting k.binary_detection) call ≡ true
      → is_binary_data call ≡ false → HasCalled step k bound old (outcome_of end result) new
  called-one call end old result new made inner plain =
      record {
        calls = one_call call end;
        inner = inner-one k call end inner;
        few = omega (arith, binary-one call end plain);
        reported = AreMade-one step k call end old result new made;
      }

  -- `binary_data`, if it is looked for
  pub called-binary : (offset end : ℕ) (old : S) (result : Result Bool E) (new : S)
      → step old k (binary_data offset) result new → is_detecting k.binary_detection ≡ true
      → HasCalled step k 1 old (outcome_of end result) new
  called-binary offset end old result new made detecting =
      record {
        calls = one_call (binary_data offset) end;
        inner = inner-one k (binary_data offset) end detecting;
        few = omega (arith, binary-cons (planned (binary_data offset) end) []);
        reported = AreMade-one step k (binary_data offset) end old result new made;
      }

  -- those of a line before a match
  pub called-before : (v j i : ℕ) (number : Option ℕ) (offset end : ℕ) (line : List ℕ) (old : S)
      (outcome : Outcome E) (new : S)
      → AreMade step k old (before_calls k v j i number offset end line) outcome new
      → HasCalled step k 0 old outcome new
  called-before v j i number offset end line old outcome new reported = grind arith

  -- and of a match
  pub called-match : (v i offset end : ℕ) (line : List ℕ) (around : Surroundings) (old : S)
      (outcome : Outcome E) (new : S)
      → AreMade step k old (selected_calls k v i offset end line around) outcome new
      → HasCalled step k 0 old outcome new
  called-match v i offset end line around old outcome new reported = grind arith

  -- calls after calls that all returned true
  pub called-after : {before after bound : ℕ} → before + after ≤ bound
      → (old mid : S) (outcome : Outcome E) (new : S)
      → HasCalled step k before old all_true mid → HasCalled step k after mid outcome new
      → HasCalled step k bound old outcome new
  called-after enough old mid outcome new first later =
      record {
        calls = first.calls ++ later.calls;
        inner = All-append (IsInner k) first.calls later.calls first.inner later.inner;
        few = omega (arith, binary-append first.calls later.calls);
        reported = AreMade-append step k first.calls later.calls old mid outcome new first.reported
            later.reported;
      }

  pub called-after-to : {before after bound : ℕ} → before + after ≤ bound
      → (old mid : S) (count : ℕ) (new : S)
      → HasCalled step k before old all_true mid → HasCalledTo step k after mid count new
      → HasCalledTo step k bound old count new
  called-after-to enough old mid count new first to = grind (arith, called-after)

  -- reports after them
  pub called-then : {bound : ℕ} (old mid : S) (outcome : Outcome E) (new : S)
      → HasCalled step k bound old all_true mid
      → HasCalled step k 0 mid outcome new → HasCalled step k bound old outcome new
  called-then = called-after (omega arith)

  -- more of them may be `binary_data`
  pub called-most : {bound most : ℕ} → bound ≤ most → (old : S) (outcome : Outcome E) (new : S)
      → HasCalled step k bound old outcome new → HasCalled step k most old outcome new
  called-most enough old outcome new called = grind arith

  -- `begin`, by what it returned
  pub begun-one : {bound : ℕ} (old : S) (result : Result Bool E) (new : S)
      → step old k begins result new → HasBegunWith step k bound old (outcome_of 0 result) new
  begun-one old result new made = grind arith

  -- calls after `begin`
  pub begun-then : {bound : ℕ} (old mid : S) (outcome : Outcome E) (new : S)
      → step old k begins (Ok true) mid
      → HasCalled step k bound mid outcome new → HasBegunWith step k bound old outcome new
  begun-then old mid outcome new begun called = grind arith

  pub begun-to : {bound : ℕ} (old mid : S) (count : ℕ) (new : S) → step old k begins (Ok true) mid
      → HasCalledTo step k bound mid count new → HasBegunTo step k bound old count new
  begun-to old mid count new begun to = grind arith

  -- `begin` returned false, or true and nothing followed
  pub begun-to-0 : {bound : ℕ} (old : S) (begun : Bool) (new : S) → step old k begins (Ok begun) new
      → HasBegunTo step k bound old 0 new
  begun-to-0 old true new made = record {
    outcome = all_true;
    ends = tt;
    called = begun-one old (Ok true) new made;
  }
  begun-to-0 old false new made = record {
    outcome = stopped (counted 0);
    ends = refl;
    called = begun-one old (Ok false) new made;
  }

  -- `finish` follows
  finished : (outcome : Outcome E) (mid : S) (count : ℕ) (binary : Option ℕ)
      (result : Result (Unit {0}) E) (new : S)
      → EndsAt outcome count → step mid k (finishes count binary) (finish_result result) new
      → IsFinished step k (outcome_with binary outcome) mid (record {
        count = count;
        binary = binary;
      }) result new
  finished all_true mid count binary result new ends made = made
  finished (stopped finish) mid count binary result new ends made = grind arith
  finished (failed e) mid count binary result new ends made = absurd ends

  -- what each call keeps is kept
  pub reported-keeps : {X : Type 0} (name : S → X)
      → ((s : S) (call : Call) (result : Result Bool E) (t : S) → step s k call result t → name t
      ≡ name s) → (calls : List Planned) (old : S) (outcome : Outcome E) (new : S)
      → AreMade step k old calls outcome new → name new ≡ name old
  reported-keeps name each [] old outcome new (is, same) = ap name same
  reported-keeps name each (call ∷ later) old outcome new (inl (mid, made, reported)) =
      reported-keeps name each later mid outcome new reported
      ∙ each old call.call (Ok true) mid made
  reported-keeps name each (call ∷ later) old outcome new (inr (inl (is, made))) =
      each old call.call (Ok false) new made
  reported-keeps name each (call ∷ later) old outcome new (inr (inr (e, is, made))) =
      each old call.call (Err e) new made

  module _ {F : Type 0} (errors : ErrorMakers F E) (matcher : MatcherFacts F) where
    -- `begin` and such calls are in order, if `finish` has an offset only if binary bytes are
    -- looked for
    in-order : (binary : Option ℕ) → (is_detecting k.binary_detection ≡ false → binary ≡ None)
        → (calls : List Planned) → AreInner k calls → binary_count calls ≤ 1
        → AreInOrder step errors matcher k (map (with_binary binary) (planned begins 0 ∷ calls))
    in-order binary plain calls inner few = record {
      first = with_binary binary (planned begins 0);
      later = map (with_binary binary) calls;
      all = refl;
      begin = (refl, refl);
      inner = All-map (IsInner k) (with_binary binary) calls inner;
      once = omega (arith, binary-with binary calls);
      plain = λ none. All-map (λ (call : Planned). call.if_false.binary ≡ None) (with_binary binary)
          (planned begins 0 ∷ calls) (λ n d below. plain none);
    }

    begun-in-order : {bound : ℕ} → bound ≤ 1 → (old new : S)
        → HasBegunWith step k bound old all_true new → HasBegun step errors matcher k old new
    begun-in-order once old new begun = (
      map (with_binary None) (planned begins 0 ∷ begun.calls),
      in-order None (λ none. refl) begun.calls begun.inner (omega arith),
      made-binary step k None (planned begins 0 ∷ begun.calls) old all_true new begun.reported,
    )

    ordered-run : {IsOfReading : Error → Type 0} {bound : ℕ} → bound ≤ 1
        → (old mid : S) (count : ℕ) (binary : Option ℕ) (result : Result (Unit {0}) E) (new : S)
        → (is_detecting k.binary_detection ≡ false → binary ≡ None)
        → HasBegunTo step k bound old count mid
        → step mid k (finishes count binary) (finish_result result) new
        → IsInOrder step errors matcher k IsOfReading old result new
    ordered-run once old mid count binary result new noted to made =
        let calls = to.called.calls in
        ran_in_order (record {
          calls = map (with_binary binary) (planned begins 0 ∷ calls);
          finish = record { count = count; binary = binary };
        }) (in-order binary noted calls to.called.inner (omega arith)) noted (record {
          outcome = outcome_with binary to.outcome;
          mid = mid;
          made = made-binary step k binary (planned begins 0 ∷ calls) old to.outcome mid
              to.called.reported;
          finished = finished to.outcome mid count binary result new to.ends made;
        })

    -- an error of a call ends a run
    ordered-failed : {IsOfReading : Error → Type 0} {bound : ℕ} → bound ≤ 1
        → (old : S) (e : E) (new : S)
        → HasBegunWith step k bound old (failed e) new → IsInOrder step errors matcher k IsOfReading
        old (Err e) new
    ordered-failed once old e new begun =
        ran_in_order (record {
          calls = map (with_binary None) (planned begins 0 ∷ begun.calls);
          finish = record { count = 0; binary = None };
        }) (in-order None (λ none. refl) begun.calls begun.inner (omega arith)) (λ none. refl)
        (record {
          outcome = failed e;
          mid = new;
          made = made-binary step k None (planned begins 0 ∷ begun.calls) old (failed e) new
              begun.reported;
          finished = (refl, refl);
        })

    -- a part of a search that goes on or not may be its last
    pub called-to : (old : S) (count : ℕ) (goes_on : Bool) (new : S)
        → GoesOnInOrder step k errors matcher old (Ok goes_on) count new
        → HasCalledTo step k 0 old count new
    called-to old count true new called = record { outcome = all_true; ends = tt; called = called }
    called-to old count false new to = to

    -- an error after calls that all returned true
    pub failed-then : {bound : ℕ} (old mid : S) (e : E) (new : S)
        → HasCalled step k bound old all_true mid
        → HasFailedIn step k errors matcher (HasCalled step k 0 mid) e new
        → HasFailedIn step k errors matcher (HasCalled step k bound old) e new
    failed-then old mid e new first (of_call called) =
        of_call (called-then old mid (failed e) new first called)
    failed-then old mid e new first (of_question haystack error fails made called) =
        of_question haystack error fails made (called-then old mid all_true new first called)

    -- or after `begin`
    pub failed-begun : {bound : ℕ} (old mid : S) (e : E) (new : S) → step old k begins (Ok true) mid
        → HasFailedIn step k errors matcher (HasCalled step k bound mid) e new
        → HasFailedIn step k errors matcher (HasBegunWith step k bound old) e new
    failed-begun old mid e new begun (of_call called) =
        of_call (begun-then old mid (failed e) new begun called)
    failed-begun old mid e new begun (of_question haystack error fails made called) =
        of_question haystack error fails made (begun-then old mid all_true new begun called)

    -- or of `begin` itself
    pub failed-begin : {bound : ℕ} (old : S) (e : E) (new : S) → step old k begins (Err e) new
        → HasFailedIn step k errors matcher (HasBegunWith step k bound old) e new
    failed-begin old e new made = of_call (begun-one old (Err e) new made)

    pub order-begun : (old mid : S) (result : Result ℕ E) (new : S)
        → step old k begins (Ok true) mid
        → EndsInOrder step k errors matcher mid result new → BeginsInOrder step k errors matcher old
        result new
    order-begun old mid (Ok count) new begun to = begun-to old mid count new begun to
    order-begun old mid (Err e) new begun failed_so = failed-begun old mid e new begun failed_so

    -- what each call keeps is kept
    module _ {X : Type 0} (name : S → X)
        (each : (s : S) (call : Call) (result : Result Bool E) (t : S) → step s k call result t
        → name t ≡ name s) where
      failed-keeps : (Called : Outcome E → S → Type 0) (old : S)
          → ((outcome : Outcome E) (new : S) → Called outcome new → name new ≡ name old)
          → (e : E) (new : S) → HasFailedIn step k errors matcher Called e new → name new ≡ name old
      failed-keeps Called old keeps e new (of_call called) = keeps (failed e) new called
      failed-keeps Called old keeps e new (of_question haystack error fails made called) =
          keeps all_true new called

      pub begun-keeps : (old : S) (result : Result ℕ E) (new : S)
          → BeginsInOrder step k errors matcher old result new → name new ≡ name old
      begun-keeps old (Ok count) new to =
          reported-keeps name each (planned begins 0 ∷ to.called.calls) old to.outcome new
          to.called.reported
      begun-keeps old (Err e) new fails =
          failed-keeps (HasBegunWith step k 0 old) old
          (λ outcome t called. reported-keeps name each (planned begins 0 ∷ called.calls) old
          outcome t called.reported) e new fails

    -- it ends the search
    pub order-failed : (IsOfReading : Error → Type 0) {bound : ℕ} → bound ≤ 1
        → (old : S) (e : E) (new : S)
        → HasFailedIn step k errors matcher (HasBegunWith step k bound old) e new
        → IsInOrder step errors matcher k IsOfReading old (Err e) new
    order-failed IsOfReading once old e new (of_call begun) = ordered-failed once old e new begun
    order-failed IsOfReading once old e new (of_question haystack error fails made begun) =
        asked_in_order haystack error fails made (begun-in-order once old new begun)

    -- an error after `begin`, of calls or of reading
    pub order-read : (IsOfReading : Error → Type 0) (old mid : S) (e : E) (new : S)
        → step old k begins (Ok true) mid
        → ReadsInOrder step k errors matcher IsOfReading mid (Err e) new
        → IsInOrder step errors matcher k IsOfReading old (Err e) new
    order-read IsOfReading old mid e new begun (inl failed_so) =
        order-failed IsOfReading (omega arith) old e new
        (failed-begun old mid e new begun failed_so)
    order-read IsOfReading old mid e new begun (inr (error, cause, made, called)) =
        read_in_order error cause made
        (inr (begun-in-order (omega arith) old new (begun-then old mid all_true new begun called)))

    -- a search that comes to `finish` runs in order
    pub order-finished : (IsOfReading : Error → Type 0) {bound : ℕ} → bound ≤ 1
        → (old mid : S) (count : ℕ) (binary : Option ℕ) (result : Result (Unit {0}) E) (new : S)
        → (is_detecting k.binary_detection ≡ false → binary ≡ None)
        → HasBegunTo step k bound old count mid → step mid k (finishes count binary)
        (finish_result result) new → IsInOrder step errors matcher k IsOfReading old result new
    order-finished IsOfReading once old mid count binary result new noted to made =
        ordered-run once old mid count binary result new noted to made

    -- the errors of reading may be more, or seen otherwise
    pub in_order-each : (IsOfReading IsLater : Error → Type 0)
        → ((error : Error) → IsOfReading error → IsLater error)
        → (old : S) (result : Result (Unit {0}) E) (new : S)
        → IsInOrder step errors matcher k IsOfReading old result new
        → IsInOrder step errors matcher k IsLater old result new
    in_order-each IsOfReading IsLater each old result new (ran_in_order plan calls plain run) =
        ran_in_order plan calls plain run
    in_order-each IsOfReading IsLater each old (Err e) new
        (asked_in_order haystack error fails made begun) =
        asked_in_order haystack error fails made begun
    in_order-each IsOfReading IsLater each old (Err e) new (read_in_order error is made begun) =
        read_in_order error (each error is) made begun

-- Reports to a sink that passes them on to another one, `view` of it. Each is some calls of that
-- one, in order: reports, and `binary_data` if the search ends then. What `Holds` of it holds while
-- calls return true, and `count_of` is the byte count that it passes on.
module _ {S T E : Type 0} (step : Steps S E) (around : Steps T E) (k : Settings) (view : T → S)
    (Holds : T → Type 0)
    (count_of : T → ℕ → ℕ) where
  -- what one call came to
  abbrev pub Passes : T → Result Bool E → ℕ → T → Type 0
  Passes old (Ok true) end new = Holds new × HasCalled step k 0 (view old) all_true (view new)
  Passes old (Ok false) end new = HasCalledTo step k 1 (view old) (count_of new end) (view new)
  Passes old (Err e) end new = HasCalled step k 1 (view old) (failed e) (view new)

  -- and what some did
  abbrev pub HasPassed : T → Outcome E → T → Type 0
  HasPassed old all_true new = Holds new × HasCalled step k 0 (view old) all_true (view new)
  HasPassed old (stopped finish) new = HasCalledTo step k 1 (view old) (count_of new finish.count)
      (view new)
  HasPassed old (failed e) new = HasCalled step k 1 (view old) (failed e) (view new)

  passed-then : (old mid : T) (outcome : Outcome E) (new : T)
      → HasCalled step k 0 (view old) all_true (view mid)
      → HasPassed mid outcome new → HasPassed old outcome new
  passed-then old mid all_true new first (holds, later) =
      (holds, called-then step k (view old) (view mid) all_true (view new) first later)
  passed-then old mid (stopped finish) new first to =
      called-after-to step k (omega arith) (view old) (view mid) (count_of new finish.count)
      (view new) first to
  passed-then old mid (failed e) new first later =
      called-after step k (omega arith) (view old) (view mid) (failed e) (view new) first later

  module _ (one : (call : Call) (end : ℕ) (old : T) (result : Result Bool E) (new : T)
      → comes_between (is_detecting k.binary_detection) call ≡ true → is_binary_data call ≡ false
      → Holds old
      → around old k call result new → Passes old result end new) where
    passed-all : (calls : List Planned) (old : T) (outcome : Outcome E) (new : T) → AreInner k calls
        → binary_count calls ≤ 0 → Holds old → AreMade around k old calls outcome new
        → HasPassed old outcome new
    passed-all [] old outcome new inner few holds (is, same) =
        subst (λ o. HasPassed old o new) (sym is) (subst (λ t. HasPassed old all_true t) (sym same)
        (holds, called-none step k (view old)))
    passed-all (call ∷ later) old outcome new inner few holds (inl (mid, made, reported)) =
        let plain = none-binary call later few in
        let here = one call.call call.if_false.count old (Ok true) mid
        (All-head (IsInner k) call later inner) plain.0 holds made in
        passed-then old mid outcome new here.1
        (passed-all later mid outcome new (All-tail (IsInner k) call later inner) plain.1 here.0
        reported)
    passed-all (call ∷ later) old outcome new inner few holds (inr (inl (is, made))) =
        subst (λ o. HasPassed old o new) (sym is)
        (one call.call call.if_false.count old (Ok false) new
        (All-head (IsInner k) call later inner) (none-binary call later few).0 holds made)
    passed-all (call ∷ later) old outcome new inner few holds (inr (inr (e, is, made))) =
        subst (λ o. HasPassed old o new) (sym is)
        (one call.call call.if_false.count old (Err e) new (All-head (IsInner k) call later inner)
        (none-binary call later few).0 holds made)

    passed-ended : (old : T) (count : ℕ) (outcome : Outcome E) (new : T) → EndsAt outcome count
        → HasPassed old outcome new
        → HasCalledTo step k 1 (view old) (count_of new count) (view new)
    passed-ended old count all_true new ends (holds, called) = grind (arith, called-most)
    passed-ended old count (stopped finish) new ends to = grind arith
    passed-ended old count (failed e) new ends called = absurd ends

    module _ {F : Type 0} (errors : ErrorMakers F E) (matcher : MatcherFacts F) where
      -- with `begin`, which is passed on as it is
      module _ (begun : (old : T) (result : Result Bool E) (new : T) → Holds old
          → around old k begins result new → Holds new × step (view old) k begins result (view new))
          (held : (new : T) (count : ℕ) → Holds new → count_of new count ≡ count) where
        passed-begun : (old : T) (e : E) (new : T) → Holds old
            → HasBegunWith around k 0 old (failed e) new
            → HasBegunWith step k 1 (view old) (failed e) (view new)
        passed-begun old e new holds with_calls = grind (arith, begun-then, passed-all, begun-one)

        passed-begun-true : (old new : T) → Holds old → HasBegunWith around k 0 old all_true new
            → HasBegunWith step k 1 (view old) all_true (view new)
        passed-begun-true old new holds with_calls =
            grind (arith, begun-then, called-most, passed-all)

        pub passed-begun-to : (old : T) (count : ℕ) (new : T) → Holds old
            → HasBegunTo around k 0 old count new
            → HasBegunTo step k 1 (view old) (count_of new count) (view new)
        passed-begun-to old count new holds to =
            grind (arith, begun-to, passed-ended, passed-all, begun-to-0)

        pub passed-begun-failed : (old : T) (e : E) (new : T) → Holds old
            → HasFailedIn around k errors matcher (HasBegunWith around k 0 old) e new
            → HasFailedIn step k errors matcher (HasBegunWith step k 1 (view old)) e (view new)
        passed-begun-failed old e new holds (of_call called) =
            of_call (passed-begun old e new holds called)
        passed-begun-failed old e new holds (of_question haystack error fails made called) =
            of_question haystack error fails made (passed-begun-true old new holds called)
