-- A walk over lines, against the calls that are defined.
use Rattle.grep_definitions.specs.Plans.{calls_at, line_plan, reports_end, selected_lines, through}
use Rattle.grep_definitions.specs.Plans.{planned, Planned, begins, context, Steps, Outcome}
use Rattle.grep_definitions.specs.Plans.{all_true, stopped, failed, AreMade, counted, Settings}
use Rattle.grep_definitions.specs.Plans.{joined_from, stops_next, has_room, hits_if, IsAskedFrom}
use Rattle.grep_definitions.specs.Plans.{Selection, follows_selected, hits, is_chosen, is_open_at}
use Rattle.grep_definitions.specs.Plans.{is_selected, is_trailing, number, Finish, Plan}
use Rattle.grep_definitions.specs.Plans
use Rattle.std.proofs.Common.{◌≡◌, ℕ, ◌+◌, ◌-◌, ◌<◌, ◌≤◌, Bool, true, false, ◌||◌, List, [], ◌∷◌}
use Rattle.std.proofs.Common.{◌++◌, length, drop, refl, sym, ◌∙◌, ap, subst, arith, ⊎_elim, inl}
use Rattle.std.proofs.Common.{inr, Ok, Err, if◌then◌else◌, length-take, length-drop}
use Rattle.std.proofs.lemmas.Bool.Decides.{nat_tests}
use Rattle.std.proofs.lemmas.Bool.{cases_Bool, lt-ltb, cases_lt}
use Rattle.std.proofs.lemmas.List.Elements.{All-nil, All-cons, All-append, All-weaker}
use Rattle.std.specs.Prelude.{nat_lt, All, slice_range}
use Rattle.grep_matcher.specs.Lines.{byte_of, lines}
use Rattle.grep_matcher.specs.Meanings.{Meaning, MatcherFacts}
use Rattle.grep_lines.specs.Positions.{IsLine, IsLineStart}
use Rattle.grep_report.specs.declared.sink_context.SinkContextKind.TheVariants.{After, Other}
use Rattle.grep_definitions.specs.Searches.{reports_nothing, nowhere}
use Rattle.grep_definitions.specs.LineCalls.{after_calls, context_calls, selected_calls}
use Rattle.grep_definitions.specs.LineCalls.{pending_calls, matches_line}
use Rattle.grep_definitions.specs.SearchLaws.{number_of}
use Rattle.grep_report.specs.ErrorMakers.{ErrorMakers}
use Rattle.grep_definitions.specs.SliceSearches.{IsContentsSearch}
use Rattle.grep_definitions.proofs.ContentsSearchLemmas.{plain-asked, plain-ran}
use Rattle.grep_definitions.specs.LineWalks.{IsNear, IsOpen}
use Rattle.grep_definitions.proofs.BelowLemmas.{joined_from-equal, joined_from-none, headed-through}
use Rattle.grep_definitions.proofs.BelowLemmas.{headed-many}
use Rattle.grep_definitions.proofs.LimitLemmas.{IsOpen-chosen, IsOpen-missed}
use Rattle.grep_definitions.proofs.LimitLemmas.{reportable-above, reportable-all, IsDone}
use Rattle.grep_definitions.proofs.LimitLemmas.{IsDone-chosen, IsDone-limit, IsDone-stop}
use Rattle.grep_definitions.proofs.LimitLemmas.{selected-is}
use Rattle.grep_definitions.proofs.SelectionLemmas.{headed-missed}
use Rattle.grep_definitions.proofs.ContextLemmas.{IsNear-hit, IsNear-missed}
use Rattle.grep_definitions.proofs.ContextLemmas.{follows-selected, calls_at-done, calls_at-passed}
use Rattle.grep_definitions.proofs.ContextLemmas.{calls_at-hit, calls_at-after, calls_at-other}
use Rattle.grep_definitions.proofs.LineSliceLemmas.{number-line}
use Rattle.grep_definitions.proofs.CountLemmas.{ends-one, ends-pending, ends-match, ends-late}
use Rattle.grep_definitions.proofs.CountLemmas.{ends-passed, ended-by}
use Rattle.grep_walk.specs.declared.walk.Walk.{Walk}
use Rattle.grep_walk.specs.WalkFaults.{IsWalkFault, at_call, at_question}
use Rattle.grep_definitions.specs.SinkRuns.{IsMadeTo}
use Rattle.grep_walk.specs.Origins.{IsMadeToFrom, AreMadeFrom, Origin, fresh}
use Rattle.grep_walk.specs.Walks.{IsDecided, IsPlaced, IsWalk, HasReported, can_hit, line_end}
use Rattle.grep_walk.specs.Walks.{line_calls, after_line, is_over}
use Rattle.grep_walk.proofs.OriginLemmas.{from-append, from-ended, from-fresh, fresh-made}
use Rattle.grep_report.specs.SinkReports.{Surroundings, no_surroundings}

-- if the counts of the calls so far are at most a walk's offset, those with the calls of its line
-- are at most the line's end
pub ended-next : (k : Settings) (window : List ℕ) (w : Walk) (line : List ℕ)
    (around : Surroundings) (chosen trailing : Bool) (made : List Planned)
    → All (λ call. call.if_false.count ≤ w.offset) made
    → All (λ call. call.if_false.count ≤ line_end w line)
    (made ++ line_calls k window w line around chosen trailing)
ended-next k window w line around chosen trailing made ended =
    All-append (λ call. call.if_false.count ≤ line_end w line) made
    (line_calls k window w line around chosen trailing)
    (All-weaker (λ call. call.if_false.count ≤ w.offset) (λ call. call.if_false.count
    ≤ line_end w line) (λ call low. omega (arith, low)) made ended)
    (All-weaker E (λ call. call.if_false.count ≤ line_end w line) (λ call is. omega (arith, is))
    (line_calls k window w line around chosen trailing)
    (go chosen trailing (nat_lt 0 w.after_context_left) k.passthru))
  where
    E : Planned → Type 0
    E call = call.if_false.count ≡ line_end w line

    go : (b r a p : Bool) → All E (if b
        then pending_calls k window w.next_unreported w.line (line_end w line) w.next_unreported
        (w.line - w.next_unreported)
        ++ selected_calls k w.next_unreported w.line w.offset (line_end w line) line around
        else (if a then after_calls k r w.next_unreported w.line w.offset (line_end w line) line around
        else (if p then context_calls Other (number_of k w.line) w.offset (line_end w line) line
        else [])))
    go true r a p = All-append E _ _
        (ends-pending k window w.next_unreported w.line (line_end w line) w.next_unreported
        (w.line - w.next_unreported))
        (ends-match k window w.next_unreported w.line (line_end w line) w.offset line around)
    go false true true p = ends-match k window w.next_unreported w.line (line_end w line) w.offset
        line around
    go false false true p = ends-one (context After (number_of k w.line) w.offset line)
        (line_end w line)
    go false r false true = ends-one (context Other (number_of k w.line) w.offset line)
        (line_end w line)
    go false r false false = All-nil E

module _ (k : Settings) (meaning : Meaning) (bytes : List ℕ) where
  abbrev selection : Selection
  selection = selected_lines k meaning bytes

  abbrev pub t : ℕ
  t = byte_of k.line_terminator

  abbrev pub n : ℕ
  n = length (lines t bytes)

  abbrev pub T : ℕ → List Planned
  T = calls_at k bytes selection

  abbrev pub reportable : ℕ
  reportable = reports_end k meaning bytes

  abbrev pub starts : ℕ → ℕ
  starts = Plans.start k bytes

  abbrev pub Bare : Type 0
  Bare = k.passthru ≡ true → (k.after_context ≡ 0) × (k.before_context ≡ 0)

  -- `begin`, and the calls of the first i lines
  abbrev pub front : ℕ → List Planned
  front i = planned begins 0 ∷ joined_from T 0 i

  abbrev pub start_walk : Walk
  start_walk = record {
    offset = 0;
    line = 0;
    next_unreported = 0;
    after_context_left = 0;
    match_count = 0;
  }

  pub placed-start : IsPlaced k meaning bytes start_walk
  placed-start = grind arith

  -- the count of `begin` is 0
  pub ended-start : All (λ call. call.if_false.count ≤ 0) (front 0)
  ended-start = All-cons (λ call. call.if_false.count ≤ 0) (planned begins 0) [] (omega arith)
      (All-nil (λ call. call.if_false.count ≤ 0))

  front-through : (v i : ℕ) → v ≤ i → front i ≡ front v ++ joined_from T v (i - v)
  front-through = headed-through (planned begins 0) T

  -- the line that a walk is at
  module _ (w : Walk) {start end : ℕ} (same : w.offset ≡ start)
      (line : IsLine t bytes w.line start end) where
    abbrev pub here : List ℕ
    here = slice_range bytes start end

    pub end-is : line_end w here ≡ end
    end-is = omega (arith, length-take (end - start) (drop start bytes), length-drop start bytes)

    start-is : starts w.line ≡ w.offset
    start-is = line.begins ∙ sym same

    pub start-after : starts (w.line + 1) ≡ line_end w here
    start-after = line.ends ∙ sym end-is

    -- the line after it
    after : IsLineStart t bytes (line_end w here) (w.line + 1)
    after = record { listed = omega arith; begins = start-after }

    within : line_end w here ≤ length bytes
    within = omega (arith, end-is)

    -- where the walk is after the line
    pub placed-next : IsPlaced k meaning bytes w → (chosen : Bool)
        → IsPlaced k meaning bytes (after_line k w here chosen)
    placed-next placed chosen = grind (arith, after, within)

    -- what is known of the line, by whether it is chosen
    module _ (bare : Bare) (walk : IsWalk k meaning bytes w) where
      has : w.line < reportable
      has = reportable-above k meaning bytes walk.opened line.listed

      number-is : number k bytes w.line ≡ number_of k w.line
      number-is = number-line k bytes w.line line.listed

      hits-here : hits k meaning bytes w.line ≡ hits_if k (matches_line k meaning here)
      hits-here = let inside = lt-ltb w.line n line.listed in rw (inside, line.line) refl

      pub chosen-here : (b r : Bool) → IsDecided k meaning w here b r
          → is_chosen k meaning bytes w.line ≡ b
      chosen-here b r decided = grind arith

      pub trailing-here : (b r : Bool) → IsDecided k meaning w here b r → 0 < w.after_context_left
          → is_trailing k meaning bytes w.line ≡ r
      trailing-here b r decided some =
          grind (arith, hits-here, walk.opened.below, decided.trailing_is some)

      -- the matcher is asked about it only if the limit has room, or in the context after a
      -- selected line
      pub room-here : can_hit k w ≡ true
          → (is_open_at k meaning bytes w.line || follows_selected k bytes selection w.line) ≡ true
      room-here can = grind (
        arith,
        walk.opened.below,
        follows-selected k meaning bytes walk.near,
        can,
      )

      selected : (b : Bool) → is_chosen k meaning bytes w.line ≡ b
          → is_selected k meaning bytes w.line ≡ b
      selected b is = selected-is k meaning bytes walk.opened ∙ is

      pending-is : is_selected k meaning bytes w.line ≡ true
          → joined_from T w.next_unreported (w.line - w.next_unreported)
          ≡ pending_calls k bytes w.next_unreported w.line (line_end w here) w.next_unreported
          (w.line - w.next_unreported)
      pending-is hit = joined_from-equal T _ w.next_unreported (w.line - w.next_unreported)
          (λ j low high. calls_at-passed k meaning bytes walk.near line.listed has hit
          j _ (line_end w here) _ low (omega arith) refl start-after refl)

      hit-is : is_selected k meaning bytes w.line ≡ true → T w.line
          ≡ selected_calls k w.next_unreported w.line w.offset (line_end w here) here no_surroundings
      hit-is hit = calls_at-hit k meaning bytes walk.near line.listed has hit
          w.offset (line_end w here) _ number-is start-is start-after line.line

      -- the calls of the line
      pub front-step : (chosen trailing : Bool) → is_chosen k meaning bytes w.line ≡ chosen
          → (0 < w.after_context_left → is_trailing k meaning bytes w.line ≡ trailing)
          → front (after_line k w here chosen).next_unreported
          ≡ front w.next_unreported ++ line_calls k bytes w here no_surroundings chosen trailing
      front-step true trailing is late =
          let hit = selected true is in
          let pending = pending_calls k bytes w.next_unreported w.line (line_end w here)
          w.next_unreported (w.line - w.next_unreported) in
          headed-many (planned begins 0) T w.next_unreported w.line walk.near.low
          ∙ (ap (λ xs. front w.next_unreported ++ (xs ++ T w.line)) (pending-is hit)
          ∙ ap (λ xs. front w.next_unreported ++ (pending ++ xs)) (hit-is hit))
      front-step false trailing is late =
          headed-missed walk.near (planned begins 0) T _ _ after_is other_is
        where
          miss : is_selected k meaning bytes w.line ≡ false
          miss = selected false is

          after_is : 0 < w.after_context_left
              → T w.line ≡ after_calls k trailing w.next_unreported w.line w.offset
              (line_end w here) here no_surroundings
          after_is some =
              calls_at-after k meaning bytes walk.near line.listed has
              w.offset (line_end w here) _ miss some number-is start-is start-after line.line
              ∙ ap (λ r. after_calls k r w.next_unreported w.line w.offset (line_end w here) here
              no_surroundings) (late some)

          other_is : w.after_context_left ≡ 0 → k.passthru ≡ true
              → T w.line ≡ context_calls Other (number_of k w.line) w.offset (line_end w here) here
          other_is none is_p =
              calls_at-other k meaning bytes walk.near line.listed has
              w.offset (line_end w here) _ miss none is_p (bare is_p).1 number-is start-is
              start-after line.line

      pub near-next : (chosen : Bool) → is_chosen k meaning bytes w.line ≡ chosen
          → IsNear k bytes selection (after_line k w here chosen).next_unreported (w.line + 1)
          (after_line k w here chosen).after_context_left
      near-next true is = IsNear-hit k meaning bytes walk.near line.listed has (selected true is)
      near-next false is =
          IsNear-missed k meaning bytes walk.near line.listed has
          (λ is_p. (bare is_p).1) (selected false is)

      open-next : (chosen : Bool) → is_chosen k meaning bytes w.line ≡ chosen
          → is_over k (after_line k w here chosen) chosen ≡ false
          → IsOpen k meaning bytes (w.line + 1) (after_line k w here chosen).after_context_left
          (after_line k w here chosen).match_count
      open-next true is goes = IsOpen-chosen k meaning bytes walk.opened line.listed is
          (λ plain full. grind (arith, nat_tests, goes, plain, full))
      open-next false is goes = IsOpen-missed k meaning bytes walk.opened line.listed is
          (grind (arith, nat_tests, goes))
          (λ plain full. grind (arith, nat_tests, goes, plain, full))

      pub walk-next : (chosen trailing : Bool) → is_chosen k meaning bytes w.line ≡ chosen
          → (0 < w.after_context_left → is_trailing k meaning bytes w.line ≡ trailing)
          → is_over k (after_line k w here chosen) chosen ≡ false
          → IsWalk k meaning bytes (after_line k w here chosen)
      walk-next chosen trailing is late goes = record {
        placed = placed-next walk.placed chosen;
        near = near-next chosen is;
        opened = open-next chosen is goes;
        ended = subst (All (λ call. call.if_false.count ≤ line_end w here))
            (sym (front-step chosen trailing is late))
            (ended-next k bytes w here no_surroundings chosen trailing (front w.next_unreported) walk.ended);
      }

      pub done-next : (chosen : Bool) → is_chosen k meaning bytes w.line ≡ chosen
          → is_over k (after_line k w here chosen) chosen ≡ true
          → IsDone k meaning bytes (w.line + 1)
      done-next true is over = IsDone-chosen k meaning bytes walk.opened line.listed is
          (grind (arith, nat_tests, over)) (grind (arith, nat_tests, over))
          (grind (arith, nat_tests, over))
      done-next false is over = ⊎_elim
          (λ (stop : stops_next k (nat_lt 0 w.match_count) ≡ true). IsDone-stop k meaning bytes
          walk.opened line.listed is stop)
          (λ (on : stops_next k (nat_lt 0 w.match_count) ≡ false). IsDone-limit k meaning bytes
          walk.opened
          line.listed is (grind (arith, nat_tests, on, over)) (grind (arith, nat_tests, on, over))
          (grind (arith, nat_tests, on, over))) (cases_Bool (stops_next k (nat_lt 0 w.match_count)))

      -- just the calls so far end at or before the start of the line
      through-is : through (starts w.line) (line_plan k meaning bytes).calls
          ≡ front w.next_unreported
      through-is = ap (through (starts w.line)) (front-through w.next_unreported reportable
          (omega (arith, has, walk.near.low)))
          ∙ ended-by (starts w.line) (front w.next_unreported) T w.next_unreported (reportable
          - w.next_unreported)
          (subst (λ o. All (λ call. call.if_false.count ≤ o) (front w.next_unreported))
          (sym start-is) walk.ended)
          (λ j low high. All-weaker (λ call. starts (w.line + 1) ≤ call.if_false.count)
          (λ call. starts w.line < call.if_false.count) (λ call low. omega arith) (T j)
          (⊎_elim (ends-passed k meaning bytes walk.near j low) (ends-late k meaning bytes w.line j)
          (cases_lt j w.line)))

  -- after the last line
  done-end : (w : Walk) → IsWalk k meaning bytes w → w.line ≡ n → IsDone k meaning bytes w.line
  done-end w walk all = record {
    last = reportable-all k meaning bytes
        (subst (λ i. IsOpen k meaning bytes i w.after_context_left w.match_count) all walk.opened)
        ∙ sym all;
    silent = λ q low below. absurd (omega arith);
  }

  -- after the last report nothing is reported of the lines that were passed
  rest-is : (w : Walk) → IsNear k bytes selection w.next_unreported w.line w.after_context_left
      → IsDone k meaning bytes w.line
      → joined_from T w.next_unreported (reportable - w.next_unreported) ≡ []
  rest-is w near done = joined_from-none T w.next_unreported (reportable - w.next_unreported)
      (λ j low high. calls_at-done k meaning bytes near done.silent j low (omega arith))

  module _ {S E : Type 0} (step : Steps S E) (old : Origin S) where
    -- what ended early ended the whole
    AreMade-whole : (i : ℕ) (outcome : Outcome E) (new : S) → i ≤ reportable
        → (outcome ≡ all_true → ⊥) → AreMadeFrom step k old (front i) outcome new
        → AreMadeFrom step k old (line_plan k meaning bytes).calls outcome new
    AreMade-whole i outcome new inside ended reported =
        subst (λ ts. AreMadeFrom step k old ts outcome new)
        (sym (front-through i reportable inside))
        (from-ended step k old (front i) (joined_from T i (reportable - i)) outcome new ended
        reported)

    abbrev IsCounted : ℕ → Outcome E → S → Type 0
    IsCounted count outcome new = IsMadeToFrom step k old (line_plan k meaning bytes) outcome
        (counted count) new

    -- no more calls are to come
    counted-done : (w : Walk) (new : S) → IsLineStart t bytes w.offset w.line
        → IsNear k bytes selection w.next_unreported w.line w.after_context_left
        → IsDone k meaning bytes w.line
        → AreMadeFrom step k old (front w.next_unreported) all_true new
        → IsCounted w.offset all_true new
    counted-done w new at near done reported = record {
      made = subst (λ ts. AreMadeFrom step k old ts all_true new)
          (sym (front-through w.next_unreported reportable (omega arith)))
          (from-append step k old (front w.next_unreported)
          (joined_from T w.next_unreported (reportable - w.next_unreported)) new all_true
          new reported (subst (λ ts. AreMade step k new ts all_true new) (sym (rest-is w near done))
          (refl, refl)));
      ending = ap counted (sym at.begins ∙ ap starts (sym done.last));
    }

    pub counted-end : (w : Walk) (new : S) → HasReported k meaning bytes step old w new → w.line ≡ n
        → IsCounted w.offset all_true new
    counted-end w new so_far all = counted-done w new so_far.walk.placed.at so_far.walk.near
        (done-end w so_far.walk all) so_far.reported

    -- what comes of the calls of a line, by their outcome: a fault, or the count where the line
    -- ends, at which no more are to come, or something goes on from there
    abbrev pub Comes : ℕ → Bool → (S → Type 0) → Outcome E → S → Type 0
    Comes end over On (failed e) new = AreMadeFrom step k old (line_plan k meaning bytes).calls
        (failed e) new
    Comes end over On (stopped finish) new = counted end ≡ finish
        → IsCounted end (stopped finish) new
    Comes end over On all_true new = (over ≡ true → IsCounted end all_true new)
        × (over ≡ false → On new)

    pub comes-on : (end : ℕ) (over : Bool) (On On' : S → Type 0) → ((new : S) → On new → On' new)
        → (outcome : Outcome E) (new : S) → Comes end over On outcome new
        → Comes end over On' outcome new
    comes-on end over On On' on (failed e) new comes = comes
    comes-on end over On On' on (stopped finish) new comes = comes
    comes-on end over On On' on all_true new comes = (comes.0, λ goes_on. on new (comes.1 goes_on))

    -- one line
    module _ (bare : Bare) {w : Walk} {mid : S} (so_far : HasReported k meaning bytes step old w
        mid) {start end : ℕ}
        (same : w.offset ≡ start) (line : IsLine t bytes w.line start end) {chosen trailing : Bool}
        (decided : IsDecided k meaning w (slice_range bytes start end) chosen trailing) where
      abbrev text : List ℕ
      text = slice_range bytes start end

      abbrev next : Walk
      next = after_line k w text chosen

      is : is_chosen k meaning bytes w.line ≡ chosen
      is = chosen-here w same line bare so_far.walk chosen trailing decided

      late : 0 < w.after_context_left → is_trailing k meaning bytes w.line ≡ trailing
      late = trailing-here w same line bare so_far.walk chosen trailing decided

      few : next.next_unreported ≤ reportable
      few = grind (arith, has w same line bare so_far.walk, so_far.walk.near.low)

      pub line-comes : (outcome : Outcome E) (new : S)
          → AreMade step k mid (line_calls k bytes w text no_surroundings chosen trailing) outcome new
          → Comes (line_end w text) (is_over k next chosen)
          (HasReported k meaning bytes step old next) outcome new
      line-comes outcome new made = go outcome (subst (λ ts. AreMadeFrom step k old ts outcome new)
          (sym (front-step w same line bare so_far.walk chosen trailing is late))
          (from-append step k old (front w.next_unreported)
          (line_calls k bytes w text no_surroundings chosen trailing) mid outcome new so_far.reported made))
        where
          go : (outcome : Outcome E) → AreMadeFrom step k old (front next.next_unreported) outcome
              new → Comes (line_end w text) (is_over k next chosen)
              (HasReported k meaning bytes step old next) outcome new
          go (failed e) reported = AreMade-whole _ (failed e) new few (λ x. cc) reported
          go (stopped finish) reported = λ ends. record {
            made = AreMade-whole _ (stopped finish) new few (λ x. cc) reported;
            ending = ends;
          }
          go all_true reported = (
            λ over. counted-done next new (after w same line)
                (near-next w same line bare so_far.walk chosen is)
                (done-next w same line bare so_far.walk chosen is over) reported,
            λ goes_on. record {
              walk = walk-next w same line bare so_far.walk chosen trailing is late goes_on;
              reported = reported;
            },
          )

    -- only `begin` was called, and no line may be reported
    pub counted-idle : (new : S) → reports_nothing k ≡ true
        → AreMadeFrom step k old (front 0) all_true new → IsCounted 0 all_true new
    counted-idle new idle begun = grind arith

  -- of a sink that had no call
  module _ {S E : Type 0} (step : Steps S E) (old : S) where
    pub counted-unbegun : (new : S) → step old k begins (Ok false) new
        → IsCounted step (fresh old) 0 (stopped (counted 0)) new
    counted-unbegun new stops = grind arith

    pub reported-begin : (new : S) → step old k begins (Ok true) new
        → AreMadeFrom step k (fresh old) (front 0) all_true new
    reported-begin new goes = from-fresh step k old (front 0) all_true new
        (inl (new, goes, (refl, refl)))

    pub reported-start : (new : S) → reports_nothing k ≡ false → step old k begins (Ok true) new
        → HasReported k meaning bytes step (fresh old) start_walk new
    reported-start new busy goes = grind arith

-- how a search ends in a fault
module _ {S E F : Type 0} (step : Steps S E) (errors : ErrorMakers F E) (matcher : MatcherFacts F)
    (k : Settings)
    (bytes : List ℕ) where
  pub fault-begin : (old : S) (e : E) (new : S) → step old k begins (Err e) new
      → IsContentsSearch step errors matcher k nowhere false bytes old (Err e) new
  fault-begin old e new fails = plain-ran step errors matcher k bytes old
      (record {
        outcome = failed e;
        mid = new;
        made = inr (inr (e, refl, fails));
        finished = (refl, refl);
      })

  pub fault-matcher : (old : Origin S) (w : Walk) (new : S)
      → HasReported k matcher.meaning bytes step old w new
      → {start end : ℕ} (same : w.offset ≡ start) (line : IsLine (byte_of k.line_terminator) bytes
      w.line start end)
      → Bare k matcher.meaning bytes → can_hit k w ≡ true → (haystack : List ℕ) (error : F) (e : E)
      → IsAskedFrom k matcher.meaning bytes w.line haystack → errors.is_message error e
      → matcher.fails haystack error → IsWalkFault step errors matcher k bytes old e new
  fault-matcher old w new so_far same line bare room haystack error e asked message fails =
      at_question haystack error (front k matcher.meaning bytes w.next_unreported)
      (joined_from (T k matcher.meaning bytes) w.next_unreported
      (reportable k matcher.meaning bytes - w.next_unreported))
      (record {
        index = w.line;
        question = record {
          may_report = has k matcher.meaning bytes w same line bare so_far.walk;
          room = room-here k matcher.meaning bytes w same line bare so_far.walk room;
          question = asked;
        };
        before = sym (through-is k matcher.meaning bytes w same line bare so_far.walk);
      })
      (front-through k matcher.meaning bytes w.next_unreported (reportable k matcher.meaning bytes)
      (omega (arith, has k matcher.meaning bytes w same line bare so_far.walk)))
      fails message so_far.reported

  -- such a fault is one of the search by line
  pub fault-by_line : (old : S) (e : E) (new : S) → IsWalkFault step errors matcher k bytes
      (fresh old) e new → IsContentsSearch step errors matcher k nowhere false bytes old (Err e) new
  fault-by_line old e new (at_call reported) = plain-ran step errors matcher k bytes old (record {
    outcome = failed e;
    mid = new;
    made = fresh-made step k old (line_plan k matcher.meaning bytes).calls (failed e) new reported;
    finished = (refl, refl);
  })
  fault-by_line old e new (at_question haystack error made later asked first fails message
      reported) =
      plain-asked step errors matcher k bytes old haystack error made asked fails message
      (fresh-made step k old made all_true new reported)

-- what was counted of a sink that had no call
pub counted-fresh : {S E : Type 0} (step : Steps S E) (k : Settings) (old : S) (plan : Plan)
    (finish : Finish)
    (outcome : Outcome E) (new : S) → IsMadeToFrom step k (fresh old) plan outcome finish new
    → IsMadeTo step k old plan outcome finish new
counted-fresh step k old plan finish outcome new counted = grind arith
