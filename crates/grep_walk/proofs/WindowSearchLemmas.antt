-- A walk over the lines of a window, against the calls that are defined for the input.
use Rattle.std.proofs.Common.{◌∙◌, ◌≡◌, ℕ, ◌+◌, ◌-◌, ◌<◌, ◌≤◌, min, Bool, true, false, List, []}
use Rattle.std.proofs.Common.{◌++◌, length, drop, arith, Ok, refl, sym, ap, ap₂, subst, inl, inr}
use Rattle.std.proofs.Common.{length-take, append_assoc, length-drop, ⊎_elim}
use Rattle.std.proofs.lemmas.Bool.{cases_lt}
use Rattle.std.proofs.lemmas.List.{take_rest}
use Rattle.grep_matcher.specs.Lines.{lines, line_start, strip, byte_of}
use Rattle.grep_matcher.specs.Meanings.{Meaning, MatcherFacts}
use Rattle.std.specs.Prelude.{slice_range, All}
use Rattle.grep_lines.specs.Positions.{IsLine, IsLineStart}
use Rattle.grep_definitions.specs.Plans.{counted, calls_before, line_plan, reports_end}
use Rattle.grep_definitions.specs.Plans.{selected_lines, Settings, begins, Steps, Outcome, all_true}
use Rattle.grep_definitions.specs.Plans.{AreMade, stops_next, Planned, IsAskedFrom}
use Rattle.grep_walk.specs.Origins.{IsMadeToFrom, Origin, fresh}
use Rattle.grep_definitions.specs.Plans
use Rattle.grep_definitions.specs.LineWalks.{IsNear, IsOpen}
use Rattle.grep_definitions.specs.Searches.{IsClosed, reports_nothing}
use Rattle.grep_definitions.proofs.FirstCallLemmas.{front_calls-seen}
use Rattle.grep_definitions.proofs.FrontLemmas.{closed-append, count-after, start-there}
use Rattle.grep_definitions.proofs.LimitLemmas.{reportable-above, reportable-all}
use Rattle.grep_report.specs.ErrorMakers.{ErrorMakers}
use Rattle.grep_walk.specs.WalkFaults.{IsWalkFault}
use Rattle.grep_walk.specs.declared.walk.Walk.{Walk}
use Rattle.grep_walk.specs.Walks.{IsDecided, IsOrdered, HasReported, can_hit, line_end, line_calls}
use Rattle.grep_walk.specs.Walks.{after_line, is_over, with_counts}
use Rattle.grep_walk.specs.LookAheads.{MayAskAhead}
use Rattle.grep_walk.specs.Windows.{IsWindow, IsInWindow, HasPassed, HasSearched, HasWalked}
use Rattle.grep_lines.proofs.LineRangeLemmas.{line-at, end-start, start-same}
use Rattle.grep_walk.proofs.WalkLemmas as walks
use Rattle.grep_walk.proofs.WalkLemmas.{Bare, Comes, start_walk}
use Rattle.grep_walk.proofs.WindowLemmas as windows
use Rattle.grep_report.specs.SinkReports.{no_surroundings}

-- a line leaves the counts of a walk in order
pub ordered-next : (k : Settings) (w : Walk) (p q : ℕ) (window : List ℕ) (chosen : Bool) → p < q → q
    ≤ length window → IsOrdered w → IsOrdered (after_line k w (slice_range window p q) chosen)
ordered-next k w p q window chosen below within ordered = grind (arith, length-take, length-drop)

-- a walk begins with the first window of the input, once `begin` returned true
pub searched-start : {S E : Type 0} (step : Steps S E) (k : Settings) (meaning : Meaning)
    (window input : List ℕ) (first now : S) → IsWindow (byte_of k.line_terminator) [] window input
    → reports_nothing k ≡ false → step first k begins (Ok true) now
    → HasSearched step k meaning [] window input (fresh first) 0 (start_walk k meaning input) now
searched-start step k meaning window input first now shown busy begun = record {
  line = 0;
  next_unreported = 0;
  counts = λ _. (refl, refl);
  walked = record {
    inside = record {
      shown = shown;
      at = refl;
      line = record { low = omega arith; begins = record { listed = omega arith; begins = refl } };
      kept = omega arith;
    };
    reported = walks.reported-start k meaning input step first now busy begun;
  };
}

-- it goes on with the next window: nothing of what was reported changes
pub searched-rolled : {S E : Type 0} (step : Steps S E) (k : Settings) (meaning : Meaning)
    (gone window input : List ℕ) (first : Origin S)
    (w : Walk) (now : S) (passed : HasPassed step k meaning gone window input first w now)
    → (gone' window' : List ℕ) (start : ℕ) → IsInWindow k gone' window' input start
    (with_counts w passed.searched.line passed.searched.next_unreported)
    → HasSearched step k meaning gone' window' input first start w now
searched-rolled step k meaning gone window input first w now passed gone' window' start inside =
    grind arith

-- at the end of the window all its lines are passed
pub passed-all : {S E : Type 0} (step : Steps S E) (k : Settings) (meaning : Meaning)
    (gone window input : List ℕ) (first : Origin S)
    (p : ℕ) (w : Walk) (now : S) → HasSearched step k meaning gone window input first p w now → p
    ≡ length window → ((i : ℕ) → IsLineStart (byte_of k.line_terminator) window p i → i
    ≡ length (lines (byte_of k.line_terminator) window))
    → HasPassed step k meaning gone window input first w now
passed-all step k meaning gone window input first p w now so_far end last = record {
  searched = record {
    line = so_far.line;
    next_unreported = so_far.next_unreported;
    counts = so_far.counts;
    walked = subst (λ p. HasWalked step k meaning gone window input first p
        (with_counts w so_far.line so_far.next_unreported) now) end so_far.walked;
  };
  all =
      let before = length (lines (byte_of k.line_terminator) gone) in
      omega (arith, last (so_far.line - before) so_far.walked.inside.line.begins);
}

-- as it has at its end
pub passed-end : {S E : Type 0} {step : Steps S E} {k : Settings} {meaning : Meaning}
    {gone window input : List ℕ}
    {first : Origin S} {p : ℕ} {w : Walk} {now : S} → HasSearched step k meaning gone window input
    first p w now → p ≡ length window → HasPassed step k meaning gone window input first w now
passed-end {k} {window} so_far end = passed-all _ _ _ _ _ _ _ _ _ _ so_far end (λ i here. start-same
    (subst (λ p. IsLineStart (byte_of k.line_terminator) window p i) end here)
    (end-start (byte_of k.line_terminator) window))

abbrev IsCounted : {S E : Type 0} → Steps S E → Settings → Meaning → List ℕ → Origin S → ℕ
    → Outcome E → S → Type 0
IsCounted step k meaning input first count outcome new =
    IsMadeToFrom step k first (line_plan k meaning input) outcome (counted count) new

-- once all lines of the input are passed, all calls were made and returned true
pub counted-passed : {S E : Type 0} (step : Steps S E) (k : Settings) (meaning : Meaning)
    (gone window input : List ℕ) (first : Origin S)
    (w : Walk) (now : S) → HasPassed step k meaning gone window input first w now
    → length (lines (byte_of k.line_terminator) gone)
    + length (lines (byte_of k.line_terminator) window)
    ≡ length (lines (byte_of k.line_terminator) input)
    → IsCounted step k meaning input first w.offset all_true now
counted-passed step k meaning gone window input first w now passed all =
    walks.counted-end k meaning input step first
    (with_counts w passed.searched.line passed.searched.next_unreported) now
    passed.searched.walked.reported (passed.all ∙ all)

-- at the end of the input the walk has made all calls, and if it doesn't go on earlier no more are
-- to come
pub counted-either : {S E F : Type 0} (step : Steps S E) (errors : ErrorMakers F E)
    (matcher : MatcherFacts F) (k : Settings)
    (gone window input : List ℕ) (first : Origin S) (goes_on : Bool) (w : Walk) (now : S)
    → (goes_on ≡ true → HasPassed step k matcher.meaning gone window input first w now)
    → (goes_on ≡ false → (outcome : Outcome E) × IsCounted step k matcher.meaning input first
    w.offset outcome now) → length (lines (byte_of k.line_terminator) gone)
    + length (lines (byte_of k.line_terminator) window)
    ≡ length (lines (byte_of k.line_terminator) input)
    → (outcome : Outcome E) × IsCounted step k matcher.meaning input first w.offset outcome now
counted-either step errors matcher k gone window input first false w now goes ends all = ends refl
counted-either step errors matcher k gone window input first true w now goes ends all =
    grind (arith, counted-passed)

-- one line, from p up to q of the window
module _ {S E : Type 0} {step : Steps S E} {k : Settings} {meaning : Meaning}
    {gone window input : List ℕ} {first : Origin S} {p q : ℕ} {w : Walk} {now : S}
    (so_far : HasWalked step k meaning gone window input first p w now) (within : q ≤ length window)
    (line : (i : ℕ) → IsLineStart (byte_of k.line_terminator) window p i
    → IsLine (byte_of k.line_terminator) window i p q) where
  abbrev t : ℕ
  t = byte_of k.line_terminator

  abbrev before : ℕ
  before = length (lines t gone)

  abbrev here : List ℕ
  here = slice_range window p q

  own : IsLine t window (w.line - before) p q
  own = line (w.line - before) so_far.inside.line.begins

  pub at : IsLine t input w.line (length gone + p) (length gone + q)
  at = windows.input-line k gone window input w.line p q so_far.inside.line line so_far.inside.shown

  -- the bytes of the input up to a position of the window
  slice-at : (r : ℕ) → p ≤ r → r ≤ length window
      → slice_range input (length gone + p) (length gone + r) ≡ slice_range window p r
  slice-at = windows.slice-in gone window so_far.inside.shown.after input so_far.inside.shown.whole
      p

  -- a question about that line alone
  pub asked-line : IsAskedFrom k meaning input w.line (strip k.line_terminator here)
  asked-line = inl (ap (strip k.line_terminator)
      (sym (at.line ∙ slice-at q (omega (arith, own.above)) within)))

  -- a question about the lines from there to the end of the window
  pub asked-ahead : MayAskAhead k meaning w → IsAskedFrom k meaning input w.line (drop p window)
  asked-ahead may =
      let count = length (lines t window) in
      let last = line-at t window (count - 1) (omega (arith, own.listed)) in
      let next : (count - 1) + 1 ≡ count = omega (arith, own.listed) in
      let end = ap (line_start t window) next ∙ (end-start t window).begins in
      let there = so_far.inside.shown.line (count - 1) _ _ last in
      let sum : (before + (count - 1)) + 1 ≡ before + count = omega (arith, own.listed) in
      inr (record {
        allowed = may.allowed;
        room = so_far.reported.walk.opened.below ∙ may.room;
        unstopped = ap (stops_next k) so_far.reported.walk.opened.any ∙ may.unstopped;
        end = before + count;
        after = omega (arith, own.listed);
        within = omega (arith, own.listed);
        lines = sym (ap₂ (λ a b. slice_range input a b) at.begins
            (ap (line_start t input) (sym sum) ∙ (there.ends ∙ ap (λ n. length gone + n) end))
            ∙ (slice-at (length window) (omega (arith, own.above)) (omega arith)
            ∙ take_rest window p));
      })

  -- the window still has the lines that may be reported
  kept-next : (chosen : Bool) → before + min k.before_context
      ((w.line + 1) - (after_line k w here chosen).next_unreported) ≤ w.line + 1
  kept-next chosen = grind (arith, so_far.inside.line.low, so_far.inside.kept)

  -- what comes of its calls
  pub line-comes : Bare k meaning input → {chosen trailing : Bool}
      → IsDecided k meaning w here chosen trailing → (outcome : Outcome E) (new : S)
      → AreMade step k now (line_calls k input w here no_surroundings chosen trailing) outcome new
      → Comes k meaning input step first (line_end w here)
      (is_over k (after_line k w here chosen) chosen)
      (HasWalked step k meaning gone window input first q (after_line k w here chosen)) outcome new
  line-comes bare {chosen} {trailing} decided outcome new made =
      walks.comes-on k meaning input step first (line_end w here)
      (is_over k (after_line k w here chosen) chosen) _ _ on
      outcome new (subst (λ xs. IsDecided k meaning w xs chosen trailing
      → AreMade step k now (line_calls k input w xs no_surroundings chosen trailing) outcome new
      → Comes k meaning input step first (line_end w xs)
      (is_over k (after_line k w xs chosen) chosen)
      (HasReported k meaning input step first (after_line k w xs chosen)) outcome new)
      (slice-at q (omega (arith, own.above)) within)
      (λ is. walks.line-comes k meaning input step first bare so_far.reported so_far.inside.at at is
      outcome new) decided made)
    where
      on : (new : S) → HasReported k meaning input step first (after_line k w here chosen) new
          → HasWalked step k meaning gone window input first q (after_line k w here chosen) new
      on new reported = record {
        inside = record {
          shown = so_far.inside.shown;
          at = omega (arith, length-take (q - p) (drop p window), length-drop p window, own.above);
          line = windows.next-line k gone window input w.line p q so_far.inside.line line;
          kept = kept-next chosen;
        };
        reported = reported;
      }

-- the matcher's error for a question at that line
pub failed-matcher : {S E F : Type 0} {step : Steps S E} {k : Settings} {gone window input : List ℕ}
    {first : Origin S}
    {p q : ℕ} {w : Walk} {now : S} (errors : ErrorMakers F E) (matcher : MatcherFacts F)
    → Bare k matcher.meaning input
    → (so_far : HasWalked step k matcher.meaning gone window input first p w now) → q
    ≤ length window → ((i : ℕ) → IsLineStart (byte_of k.line_terminator) window p i
    → IsLine (byte_of k.line_terminator) window i p q)
    → can_hit k w ≡ true → (haystack : List ℕ) (error : F) (e : E)
    → IsAskedFrom k matcher.meaning input w.line haystack → errors.is_message error e
    → matcher.fails haystack error → IsWalkFault step errors matcher k input first e now
failed-matcher errors matcher bare so_far within line room haystack error e asked message fails =
    walks.fault-matcher _ errors matcher _ _ _ _ _ so_far.reported so_far.inside.at
    (at so_far within line) bare room haystack error e asked message fails

-- a walk that is at the end of some lines of its window, whatever comes after them
module _ {S E : Type 0} {step : Steps S E} {k : Settings} {meaning : Meaning} {gone : List ℕ}
    (shown : List ℕ) (opens : IsClosed (byte_of k.line_terminator) gone)
    (shut : IsClosed (byte_of k.line_terminator) shown)
    {first : Origin S} {w : Walk} {now : S} (more : List ℕ) where
  -- it is at the line after all those that were seen
  pub line-seen : {input : List ℕ}
      → (there : HasSearched step k meaning gone (shown ++ more) input first (length shown) w now)
      → there.line ≡ length (lines (byte_of k.line_terminator) (gone ++ shown))
  line-seen there = omega (
    arith,
    there.walked.inside.line.low,
    start-same there.walked.inside.line.begins
        (start-there (byte_of k.line_terminator) _ more shut),
    count-after (byte_of k.line_terminator) gone shown opens,
  )

  -- and the calls that it passed are those for these lines
  pub calls-seen : (k.passthru ≡ true → k.before_context ≡ 0) → (after : List ℕ)
      → (there : HasSearched step k meaning gone (shown ++ more)
      (gone ++ ((shown ++ more) ++ after)) first (length shown) w now)
      → calls_before k (gone ++ ((shown ++ more) ++ after))
      (selected_lines k meaning (gone ++ ((shown ++ more) ++ after))) there.next_unreported
      ≡ (line_plan k meaning (gone ++ shown)).calls
  calls-seen built after there =
      let input : List ℕ = gone ++ ((shown ++ more) ++ after) in
      let walk = there.walked.reported.walk in
      let back : List ℕ = more ++ after in
      let same_input : input ≡ (gone ++ shown) ++ back =
      ap (λ xs. gone ++ xs) (append_assoc shown more after) ∙ sym (append_assoc gone shown back) in
      let reportable : there.line ≤ reports_end k meaning input = ⊎_elim
      (λ less. omega (arith, reportable-above k _ input walk.opened less))
      (λ all. let end : there.line ≡ length (lines (byte_of k.line_terminator) input) = omega
      (arith, all, walk.placed.at.listed) in
      omega (
        arith,
        reportable-all k _ input
            (subst (λ i. IsOpen k meaning input i w.after_context_left w.match_count) end
            walk.opened),
        end,
      )) (cases_lt there.line (length (lines (byte_of k.line_terminator) input))) in
      let known = subst (λ i. (IsNear k input (selected_lines k meaning input) there.next_unreported
      i w.after_context_left) × (i ≤ reports_end k meaning input)
      × All (λ (call : Planned). call.if_false.count ≤ Plans.start k input i)
      (calls_before k input (selected_lines k meaning input) there.next_unreported))
      (line-seen there) (
        walk.near,
        reportable,
        subst (λ n. All (λ (call : Planned). call.if_false.count ≤ n)
            (calls_before k input (selected_lines k meaning input) there.next_unreported))
            (sym walk.placed.at.begins) walk.ended,
      ) in
      let count : ℕ = length (lines (byte_of k.line_terminator) (gone ++ shown)) in
      let moved = subst (λ xs. (IsNear k xs (selected_lines k meaning xs) there.next_unreported
      count w.after_context_left) × (count ≤ reports_end k meaning xs)
      × All (λ (call : Planned). call.if_false.count ≤ Plans.start k xs count)
      (calls_before k xs (selected_lines k meaning xs) there.next_unreported)) same_input known in
      ap (λ xs. calls_before k xs (selected_lines k meaning xs) there.next_unreported) same_input
      ∙ front_calls-seen k meaning _ back (closed-append (byte_of k.line_terminator) gone shown
      opens shut) built _ _ moved.0 moved.1 moved.2
