-- How the calls of a walk across lines end, against those that are defined.
use Rattle.std.proofs.Common.{◌≡◌, ℕ, ◌+◌, ◌-◌, ◌≤◌, true, List, ◌++◌, length, drop, inl, inr, refl}
use Rattle.std.proofs.Common.{sym, ◌∙◌, ap, subst, arith, length-take, length-drop}
use Rattle.std.specs.Prelude.{Ok, Err, false, All, slice_range}
use Rattle.grep_lines.proofs.LineRangeLemmas.{comes-from, end-start}
use Rattle.grep_matcher.specs.Lines.{lines, byte_of}
use Rattle.grep_matcher.specs.Meanings.{Meaning, MatcherFacts}
use Rattle.grep_definitions.specs.SinkRuns.{IsMadeTo}
use Rattle.grep_definitions.specs.Plans.{across_plan, calls_at, start, touched_lines, IsAskedAt}
use Rattle.grep_definitions.specs.Plans.{joined_from, Settings, Planned, begins, Steps, Outcome}
use Rattle.grep_definitions.specs.Plans.{all_true, stopped, failed, AreMade, counted, calls_before}
use Rattle.grep_definitions.specs.Plans.{Selection}
use Rattle.grep_report.specs.ErrorMakers.{ErrorMakers}
use Rattle.grep_definitions.specs.Searches.{nowhere}
use Rattle.grep_definitions.specs.SliceSearches.{IsContentsSearch}
use Rattle.grep_definitions.proofs.ContentsSearchLemmas.{plain-asked, plain-ran}
use Rattle.grep_definitions.proofs.AcrossCountLemmas.{through-is}
use Rattle.grep_definitions.proofs.BelowLemmas.{room-first}
use Rattle.grep_definitions.proofs.SinkRunLemmas.{AreMade-append, AreMade-ended}
use Rattle.grep_walk.specs.declared.walk.Walk.{Walk}
use Rattle.grep_walk.specs.AcrossWalks.{IsAcross, is_done}
use Rattle.grep_walk.specs.Walks.{skip_lines}
use Rattle.grep_definitions.proofs.AcrossWalkLemmas as calls
use Rattle.grep_walk.proofs.AcrossStepLemmas as steps
use Rattle.grep_walk.proofs.AcrossUnitLemmas.{IsNext}
use Rattle.grep_walk.proofs.QuestionLemmas.{asked-inside}

module _ (k : Settings) (meaning : Meaning) (bytes : List ℕ) where
  abbrev n : ℕ
  n = length (lines (byte_of k.line_terminator) bytes)

  abbrev T : ℕ → List Planned
  T = calls_at k bytes (touched_lines k meaning bytes)

  abbrev front : ℕ → List Planned
  front = calls_before k bytes (touched_lines k meaning bytes)

  passed-few : (w : Walk) → IsAcross k meaning bytes w → w.next_unreported ≤ n
  passed-few w across = omega arith

  module _ {State E : Type 0} (step : Steps State E) (first : State) where
    abbrev IsCounted : ℕ → Outcome E → State → Type 0
    IsCounted count outcome new = IsMadeTo step k first (across_plan k meaning bytes) outcome
        (counted count) new

    pub counted-unbegun : (new : State) → step first k begins (Ok false) new
        → IsCounted 0 (stopped (counted 0)) new
    counted-unbegun new stops = record { made = inr (inl (refl, stops)); ending = refl }

    pub reported-begin : (now : State) → step first k begins (Ok true) now
        → AreMade step k first (front 0) all_true now
    reported-begin now goes = inl (now, goes, (refl, refl))

    -- more calls
    pub reported-next : (w : Walk) (v : ℕ) (own : List Planned) (now : State) → front v
        ≡ front w.next_unreported ++ own
        → AreMade step k first (front w.next_unreported) all_true now
        → (outcome : Outcome E) (new : State)
        → AreMade step k now own outcome new → AreMade step k first (front v) outcome new
    reported-next w v own now is reported outcome new later =
        subst (λ ts. AreMade step k first ts outcome new) (sym is)
        (AreMade-append step k (front w.next_unreported) own first now outcome new reported later)

    -- what ended early ended the whole
    ended-whole : (v : ℕ) (outcome : Outcome E) (new : State) → v ≤ n → (outcome ≡ all_true → ⊥)
        → AreMade step k first (front v) outcome new
        → AreMade step k first (across_plan k meaning bytes).calls outcome new
    ended-whole v outcome new low ended reported =
        subst (λ ts. AreMade step k first ts outcome new)
        (sym (calls.front-through k meaning bytes v n low))
        (AreMade-ended step k (front v) (joined_from T v (n - v)) first outcome new ended reported)

    pub counted-stopped : (w : Walk) (end count : ℕ) (new : State) → IsAcross k meaning bytes w
        → count ≡ end → AreMade step k first (front w.next_unreported) (stopped (counted end)) new
        → IsCounted count (stopped (counted end)) new
    counted-stopped w end count new across same reported = record {
      made = ended-whole w.next_unreported (stopped (counted end)) new (passed-few w across)
          (λ same. cc) reported;
      ending = ap counted same;
    }

    pub failed-whole : (w : Walk) (e : E) (new : State) → IsAcross k meaning bytes w
        → AreMade step k first (front w.next_unreported) (failed e) new
        → AreMade step k first (across_plan k meaning bytes).calls (failed e) new
    failed-whole w e new across reported = ended-whole w.next_unreported (failed e) new
        (passed-few w across) (λ same. cc) reported

    -- at the end of the bytes all lines were passed
    all-passed : (w : Walk) → IsAcross k meaning bytes w → w.offset ≡ length bytes → w.line ≡ n
    all-passed w across end =
        omega (arith, comes-from (end-start (byte_of k.line_terminator) bytes) w.line (omega arith))

    pub counted-end : (w : Walk) (new : State) → IsAcross k meaning bytes w → w.offset
        ≡ length bytes → AreMade step k first (front w.next_unreported) all_true new
        → IsCounted w.offset all_true new
    counted-end w new across end reported =
        let all = all-passed w across end in
        record {
          made = subst (λ ts. AreMade step k first ts all_true new)
              (sym (calls.front-done k meaning bytes
              (subst (λ i. calls.Near k meaning bytes w.next_unreported i w.after_context_left) all
              across.near))) reported;
          ending = ap counted (sym across.placed.at.begins ∙ ap (start k bytes) all);
        }

    -- the lines up to the end are passed unreported
    pub counted-past : (w : Walk) (p q : ℕ) → w.offset ≡ p → IsAcross k meaning bytes w
        → IsNext k meaning bytes w p q
        → q ≡ length bytes → k.passthru ≡ false → w.after_context_left ≡ 0 → (new : State)
        → AreMade step k first (front w.next_unreported) all_true new → IsCounted q all_true new
    counted-past w p q same across next end plain none new reported =
        let past = steps.across-past same across next plain none in
        let size : w.offset + length (slice_range bytes p q) ≡ q =
        omega (arith, length-take (q - p) (drop p bytes), length-drop p bytes) in
        subst (λ count. IsCounted count all_true new) size
        (counted-end (skip_lines k w (slice_range bytes p q)) new past (size ∙ end) reported)

-- how it ends in a fault
module _ {State E F : Type 0} (step : Steps State E) (errors : ErrorMakers F E)
    (matcher : MatcherFacts F) (k : Settings)
    (bytes : List ℕ) (first : State) where
  abbrev selection : Selection
  selection = touched_lines k matcher.meaning bytes

  abbrev IsFaulty : E → State → Type 0
  IsFaulty e new = IsContentsSearch step errors matcher k nowhere true bytes first (Err e) new

  failed-run : (e : E) (new : State)
      → AreMade step k first (across_plan k matcher.meaning bytes).calls (failed e) new
      → IsFaulty e new
  failed-run e new reported = plain-ran step errors matcher k bytes first (record {
    outcome = failed e;
    mid = new;
    made = reported;
    finished = (refl, refl);
  })

  pub fault-begin : (e : E) (new : State) → step first k begins (Err e) new → IsFaulty e new
  fault-begin e new fails = failed-run e new (inr (inr (e, refl, fails)))

  pub fault-sink : (w : Walk) (e : E) (new : State) → IsAcross k matcher.meaning bytes w
      → AreMade step k first (calls_before k bytes selection w.next_unreported) (failed e) new
      → IsFaulty e new
  fault-sink w e new across reported = failed-run e new
      (failed-whole k matcher.meaning bytes step first w e new across reported)

  -- a question at the line that a walk is at
  pub fault-matcher : (w : Walk) (now : State) → IsAcross k matcher.meaning bytes w
      → AreMade step k first (calls_before k bytes selection w.next_unreported) all_true now
      → (haystack : List ℕ) (error : F) (e : E) → IsAskedAt k matcher.meaning bytes w.line haystack
      → is_done k w ≡ false → matcher.fails haystack error → errors.is_message error e
      → IsFaulty e now
  fault-matcher w now across reported haystack error e asked goes fails message =
      plain-asked step errors matcher k bytes first haystack error
      (calls_before k bytes selection w.next_unreported)
      (record {
        index = w.line;
        question = record {
          question = asked;
          room = λ inverted. grind (arith, (across.limited inverted).below, inverted, goes);
        };
        before = sym (through-is k matcher.meaning bytes across.near
            (asked-inside k matcher.meaning bytes w.line haystack asked)
            (subst (λ o. All (λ call. call.if_false.count ≤ o)
            (calls_before k bytes selection w.next_unreported))
            (sym across.placed.at.begins) across.ended));
      }) fails message reported

  -- the first question
  pub fault-first : (now : State) → step first k begins (Ok true) now
      → (haystack : List ℕ) (error : F) (e : E)
      → IsAskedAt k matcher.meaning bytes 0 haystack → matcher.fails haystack error
      → errors.is_message error e → IsFaulty e now
  fault-first now begun haystack error e asked fails message =
      fault-matcher start now (steps.across-start k matcher.meaning bytes)
      (reported-begin k matcher.meaning bytes step first now begun) haystack error e asked goes
      fails message
    where
      start : Walk
      start = record {
        offset = 0;
        line = 0;
        next_unreported = 0;
        after_context_left = 0;
        match_count = 0;
      }

      goes : is_done k start ≡ false
      goes = grind (
        arith,
        asked.question.room,
        room-first k (length asked.found),
      )
