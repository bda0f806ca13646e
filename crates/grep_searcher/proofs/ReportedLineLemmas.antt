-- Lines one after another that a sink is offered: one by one, against the calls that report them
-- all; and the matcher's error for the lines after them.
use Rattle.std.proofs.Common.{◌≡◌, ℕ, suc, ◌+◌, ◌-◌, ◌≤◌, true, false, List, [], ◌∷◌}
use Rattle.std.proofs.Common.{length, take, drop, refl, sym, ◌∙◌, ap, ap₂, subst, arith, inl, inr}
use Rattle.std.proofs.Common.{length-take, length-drop, take_all, Result, Ok, Err, Bool, Option, None}
use Rattle.std.proofs.Common.{Some}
use Rattle.std.proofs.lemmas.List.{drop-drop, drop-take, take-take}
use Rattle.std.specs.Prelude.{IfSome, slice_range}
use Rattle.std.specs.Option.{option_map}
use Rattle.grep_lines.specs.Positions.{IsLine}
use Rattle.grep_lines.proofs.LineRangeLemmas.{line-first}
use Rattle.grep_matcher.specs.Lines.{byte_of, lines}
use Rattle.grep_definitions.specs.MatchedLines.{calls_of_lines}
use Rattle.grep_definitions.specs.Plans.{AreMade, Outcome, Planned, Settings, Steps, all_true}
use Rattle.grep_definitions.specs.Plans.{matches, planned}
use Rattle.grep_definitions.specs.SearchLaws.{number_of}
use Rattle.grep_definitions.specs.SinkRuns.{outcome_of}
use Rattle.grep_matcher.specs.Meanings.{MatcherFacts}
use Rattle.grep_walk.specs.LineRuns.{HasFailed, after_passed}
use Rattle.grep_walk.specs.LookAheads.{HasFailedAt, MayAskAhead}
use Rattle.grep_walk.specs.declared.line_run.LineRun.{LineRun}
use Rattle.grep_walk.specs.declared.look_ahead.Ahead.{Ahead}
use Rattle.grep_walk.specs.declared.walk.Walk.{Walk}
use Rattle.grep_walk.proofs.ChosenLineLemmas.{may-ask-after}
use Rattle.grep_searcher.specs.ReportedLines.{AreOffered}
use Rattle.grep_report.specs.SinkReports.{no_surroundings}

-- the error of the lines after those that were offered is that of the lines where a walk is then
pub failed-after : {F : Type 0} (k : Settings) (facts : MatcherFacts F) (window : List ℕ)
    (start : ℕ) (ahead : Ahead) (w next : Walk) (failure : Option F) (lines : LineRun)
    → AreOffered k facts window start ahead w failure lines
    → IfSome failure (HasFailedAt k facts window lines.end next lines.ahead)
failed-after k facts window start ahead w next None lines offered = tt
failed-after k facts window start ahead w next (Some error) lines offered = record {
  may_ask = may-ask-after k facts.meaning w next offered.chosen.alone offered.failed.0;
  inside = offered.failed.1.inside;
  unknown = offered.failed.1.unknown;
  fails = offered.failed.1.fails;
}

-- that of the lines after those that a walk passed too
pub failed-past : {F : Type 0} (k : Settings) (facts : MatcherFacts F) (window : List ℕ) (w : Walk)
    (bytes count : ℕ) (failure : Option F) (lines : LineRun)
    → IfSome failure (λ error. MayAskAhead k facts.meaning w × HasFailed facts window lines error)
    → IfSome failure
    (HasFailedAt k facts window lines.end (after_passed w bytes count) lines.ahead)
failed-past k facts window w bytes count None lines failed = tt
failed-past k facts window w bytes count (Some error) lines failed = record {
  may_ask = record {
    allowed = failed.0.allowed;
    room = failed.0.room;
    unstopped = failed.0.unstopped;
  };
  inside = failed.1.inside;
  unknown = failed.1.unknown;
  fails = failed.1.fails;
}

-- a part of a slice is a part of the whole
part-of-slice : (window : List ℕ) (start end p e : ℕ) → p ≤ e → e ≤ end - start
    → slice_range (slice_range window start end) p e ≡ slice_range window (start + p) (start + e)
part-of-slice window start end p e ordered within =
    let whole : end - start ≡ p + ((end - start) - p) = omega arith in
    let size : e - p ≡ (start + e) - (start + p) = omega arith in
    ap (λ n. take (e - p) (drop p (take n (drop start window)))) whole
    ∙ (ap (take (e - p)) (drop-take p ((end - start) - p) (drop start window))
    ∙ (take-take (e - p) ((end - start) - p) (drop p (drop start window)) (omega arith)
    ∙ (ap (take (e - p)) (drop-drop p start window)
    ∙ ap (λ n. take n (drop (start + p) window)) size)))

-- the calls of lines that come after another, by the number of the line after that
calls-after : (k : Settings) (i j offset : ℕ) (ls : List (List ℕ))
    → calls_of_lines (number_of k i) (suc j) offset ls
    ≡ calls_of_lines (number_of k (i + 1)) j offset ls
calls-after k i j offset [] = refl
calls-after k i j offset (line ∷ later) = ap₂ (λ number calls.
    planned (matches number offset line no_surroundings) (offset + length line) ∷ calls) (numbered k i j)
    (calls-after k i (suc j) (offset + length line) later)
  where
    numbered : (k : Settings) (i j : ℕ) → option_map (λ first. first + suc j) (number_of k i)
        ≡ option_map (λ first. first + j) (number_of k (i + 1))
    numbered k i j = grind arith

module _ {S E : Type 0} (step : Steps S E) (k : Settings) (window : List ℕ) (end : ℕ) where
  abbrev t : ℕ
  t = byte_of k.line_terminator

  -- the calls of the lines from a position on, the first of which has this index and offset
  abbrev calls-from : ℕ → ℕ → ℕ → List Planned
  calls-from start line offset = calls_of_lines (number_of k line) 0 offset
      (lines t (slice_range window start end))

  -- what comes of these comes of other calls, with those that were made
  abbrev pub Completes : S → List Planned → S → ℕ → ℕ → ℕ → Type 0
  Completes old calls now start line offset = (outcome : Outcome E) (new : S)
      → AreMade step k now (calls-from start line offset) outcome new
      → AreMade step k old calls outcome new

  -- at the end no call is left
  pub completes-end : (old : S) (calls : List Planned) (now : S) (start line offset : ℕ)
      → Completes old calls now start line offset → length (slice_range window start end) ≡ 0
      → AreMade step k old calls all_true now
  completes-end old calls now start line offset so_far none =
      so_far all_true now (go (slice_range window start end) none)
    where
      go : (ls : List ℕ) → length ls ≡ 0
          → AreMade step k now (calls_of_lines (number_of k line) 0 offset (lines t ls)) all_true now
      go [] none = (refl, refl)
      go (byte ∷ ls) none = absurd (omega (arith, none))

  -- the call of one line
  module _ (old : S) (calls : List Planned) (now : S) (start len line offset : ℕ)
      (so_far : Completes old calls now start line offset) (within : end ≤ length window)
      (own : IsLine t (slice_range window start end) 0 0 len) where
    abbrev here : List ℕ
    here = slice_range window start (start + len)

    size : length (slice_range window start end) ≡ end - start
    size = omega (arith, length-take (end - start) (drop start window), length-drop start window)

    fits : len ≤ end - start
    fits = omega (arith, own.within, size)

    split : lines t (slice_range window start end)
        ≡ here ∷ lines t (slice_range window (start + len) end)
    split =
        let ls : List ℕ = slice_range window start end in
        let all : slice_range ls 0 (end - start) ≡ ls = take_all ((end - start) - 0) ls (omega (arith, size)) in
        let plain : start + 0 ≡ start = omega arith in
        let last : start + (end - start) ≡ end = omega (arith, own.above, fits) in
        sym (ap (lines t) all)
        ∙ (line-first t ls 0 0 len (end - start) own fits (omega (arith, size))
        ∙ ap₂ (λ xs ys. xs ∷ lines t ys)
        (part-of-slice window start end 0 len (omega arith) fits
        ∙ ap (λ n. slice_range window n (start + len)) plain)
        (part-of-slice window start end len (end - start) fits (omega arith)
        ∙ ap (slice_range window (start + len)) last))

    same : calls-from start line offset
        ≡ planned (matches (number_of k line) offset here no_surroundings) (offset + len)
        ∷ calls-from (start + len) (line + 1) (offset + len)
    same =
        let long : offset + length here ≡ offset + len = omega (
          arith,
          length-take ((start + len) - start) (drop start window),
          length-drop start window,
          fits,
          own.above,
          within,
        ) in
        ap (calls_of_lines (number_of k line) 0 offset) split
        ∙ ap₂ (λ number o. planned (matches number offset here no_surroundings) o
        ∷ calls_of_lines (number_of k line) 1 o (lines t (slice_range window (start + len) end)))
        (numbered k line) long
        ∙ ap (λ calls. planned (matches (number_of k line) offset here no_surroundings) (offset + len) ∷ calls)
        (calls-after k line 0 (offset + len) (lines t (slice_range window (start + len) end)))
      where
        numbered : (k : Settings) (i : ℕ) → option_map (λ first. first + 0) (number_of k i)
            ≡ number_of k i
        numbered k i = grind arith

    made : (outcome : Outcome E) (new : S)
        → AreMade step k now (planned (matches (number_of k line) offset here no_surroundings) (offset + len)
        ∷ calls-from (start + len) (line + 1) (offset + len)) outcome new
        → AreMade step k old calls outcome new
    made outcome new later = so_far outcome new
        (subst (λ calls. AreMade step k now calls outcome new) (sym same) later)

    -- it returned true: the lines after it are left
    pub completes-next : (mid : S)
        → step now k (matches (number_of k line) offset here no_surroundings) (Ok true) mid
        → Completes old calls mid (start + len) (line + 1) (offset + len)
    completes-next mid goes outcome new later = made outcome new (inl (mid, goes, later))

    -- it returned false, or failed
    pub completes-last : (result : Result Bool E) (new : S)
        → step now k (matches (number_of k line) offset here no_surroundings) result new
        → (result ≡ Ok true → ⊥) → AreMade step k old calls (outcome_of (offset + len) result) new
    completes-last (Ok true) new last on = absurd (on refl)
    completes-last (Ok false) new last on = made (outcome_of (offset + len) (Ok false)) new
        (inr (inl (refl, last)))
    completes-last (Err error) new last on = made (outcome_of (offset + len) (Err error)) new
        (inr (inr (error, refl, last)))
