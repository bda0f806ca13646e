-- A walk over lines one after another that are chosen, against the calls that are defined for the
-- input.
use Rattle.std.proofs.Common.{◌≡◌, ℕ, zero, suc, ◌+◌, ◌-◌, ◌<◌, ◌≤◌, Bool, true, false, List, [], ◌∷◌}
use Rattle.std.proofs.Common.{length, drop, refl, sym, ◌∙◌, ap, ap₂, subst, arith, inl, inr, None}
use Rattle.std.proofs.Common.{⊎_elim, ◌⊎◌}
use Rattle.std.proofs.Common.{length-take, length-drop, take, Ok, Err, ◌++◌}
use Rattle.std.proofs.lemmas.Bool.{cases_eq, cases_lt}
use Rattle.std.proofs.lemmas.Bool.Decides.{nat_tests}
use Rattle.std.specs.Prelude.{slice_range, nat_lt, ◌&&◌}
use Rattle.std.specs.Option.{option_map}
use Rattle.grep_lines.specs.Positions.{IsLine, IsLineStart}
use Rattle.grep_lines.proofs.LineRangeLemmas.{line-from, start-same, starts-until}
use Rattle.grep_lines.proofs.LineRangeLemmas.{comes-before, line-first}
use Rattle.grep_matcher.specs.Lines.{lines, line_start, byte_of}
use Rattle.grep_matcher.specs.Meanings.{Meaning}
use Rattle.grep_definitions.specs.Plans.{Settings, Steps, Outcome, Planned, all_true, AreMade}
use Rattle.grep_definitions.specs.Plans.{stopped, failed, planned, matches, line_plan, counted}
use Rattle.grep_definitions.specs.Plans.{hits_if, joined_from}
use Rattle.grep_definitions.specs.LineCalls.{breaks_near, broken_calls, listed_calls, matches_line}
use Rattle.grep_definitions.specs.LineCalls.{pending_calls}
use Rattle.grep_definitions.specs.MatchedLines.{calls_of_lines}
use Rattle.grep_definitions.specs.SearchLaws.{number_of}
use Rattle.grep_walk.specs.declared.line_run.LineRun.{LineRun}
use Rattle.grep_walk.specs.declared.walk.Walk.{Walk}
use Rattle.grep_walk.specs.ChosenLines.{after_chosen, chooses_alone, chosen_calls}
use Rattle.grep_walk.specs.LineRuns.{AreAlike}
use Rattle.grep_walk.specs.LookAheads.{MayAskAhead, MayAskOn}
use Rattle.grep_walk.specs.Origins.{AreMadeFrom, IsMadeToFrom, Origin}
use Rattle.grep_walk.specs.Walks.{IsDecided, after_line, is_over, line_calls, line_end}
use Rattle.grep_walk.specs.Windows.{HasSearched}
use Rattle.grep_walk.proofs.BeforeContextLemmas.{pending-none}
use Rattle.grep_walk.proofs.UncountedLemmas as uncounted
use Rattle.grep_walk.proofs.WalkLemmas.{Bare, Comes}
use Rattle.grep_report.specs.SinkReports.{no_surroundings}

-- what a walk has of which each chosen line makes one call
record IsAlone (k : Settings) (w : Walk) : Type 0 where
  unlimited : k.max_matches ≡ None
  close : (w.next_unreported ≡ w.line) ⊎ ((k.before_context ≡ 0) × (k.after_context ≡ 0))

is_alone : (k : Settings) (w : Walk) → chooses_alone k w ≡ true → IsAlone k w
is_alone k w is = record {
  unlimited = grind (arith, nat_tests);
  close = ⊎_elim (λ same. inl (grind (arith, nat_tests)))
      (λ other. inr (grind (arith, nat_tests), grind (arith, nat_tests)))
      (cases_eq w.next_unreported w.line);
}

-- many lines may be asked about after such lines, if that is allowed at all
pub may-ask-after : (k : Settings) (meaning : Meaning) (w after : Walk) → chooses_alone k w ≡ true
    → MayAskOn k meaning → MayAskAhead k meaning after
may-ask-after k meaning w after is may = record {
  allowed = may.allowed;
  room = grind (arith, (is_alone k w is).unlimited);
  unstopped = grind (arith, may.unstopped);
}

-- nothing is reported before such a line
pending-silent : (k : Settings) (w : Walk) → IsAlone k w → (input : List ℕ) (end : ℕ)
    → pending_calls k input w.next_unreported w.line end w.next_unreported
    (w.line - w.next_unreported) ≡ []
pending-silent k w alone input end = ⊎_elim (λ same.
    let none : w.line - w.next_unreported ≡ 0 = omega arith in
    ap (joined_from (listed_calls k input w.next_unreported w.line end) w.next_unreported) none)
    (λ bare. ⊎_elim (λ less.
    let none : w.line - w.next_unreported ≡ 0 = omega arith in
    ap (joined_from (listed_calls k input w.next_unreported w.line end) w.next_unreported) none)
    (λ low. pending-none k input w.next_unreported w.line end low (omega (arith, bare.0)))
    (cases_lt w.line w.next_unreported)) alone.close

-- the number of a line that comes so many lines after another
numbered : (k : Settings) (i n : ℕ) → option_map (λ first. first + n) (number_of k i)
    ≡ number_of k (i + n)
numbered k i n = grind arith

module _ {S E : Type 0} (step : Steps S E) (k : Settings) (meaning : Meaning)
    (gone window input : List ℕ) (first : Origin S) (bare : Bare k meaning input) where
  abbrev t : ℕ
  t = byte_of k.line_terminator

  abbrev Searched : ℕ → Walk → S → Type 0
  Searched p w now = HasSearched step k meaning gone window input first p w now

  -- what comes of such calls: the walk goes on, or the search has ended with one of them
  abbrev pub LinesCome : (S → Type 0) → Outcome E → S → Type 0
  LinesCome On all_true new = On new
  LinesCome On (stopped finish) new =
      IsMadeToFrom step k first (line_plan k meaning input) (stopped finish) finish new
  LinesCome On (failed e) new =
      AreMadeFrom step k first (line_plan k meaning input).calls (failed e) new

  -- the lines from one position up to another hit
  abbrev AllHit : ℕ → ℕ → Type 0
  AllHit p q = (j a b : ℕ) → IsLine t window j a b → p ≤ a → a < q
      → hits_if k (matches_line k meaning (slice_range window a b)) ≡ true

  -- the call of a chosen line
  abbrev match_of_line : Walk → List ℕ → Planned
  match_of_line w here = planned (matches (number_of k w.line) w.offset here no_surroundings) (line_end w here)

  -- that line is chosen
  module _ (w : Walk) (p q i : ℕ) (now : S) (so_far : Searched p w now) (alone : IsAlone k w)
      (line : IsLine t window i p q)
      (hit : hits_if k (matches_line k meaning (slice_range window p q)) ≡ true) where
    abbrev here : List ℕ
    here = slice_range window p q

    there : (j : ℕ) → IsLineStart t window p j → IsLine t window j p q
    there j start = subst (λ m. IsLine t window m p q)
        (start-same (record { listed = omega arith; begins = line.begins }) start) line

    value : IsDecided k meaning w here true false
    value = record {
      chosen_is = grind (arith, hit, alone.unlimited);
      trailing_is = λ some. grind (arith, hit, alone.unlimited);
    }

    goes_on : is_over k (after_line k w here true) true ≡ false
    goes_on = grind (arith, nat_tests, alone.unlimited)

    one-call : line_calls k input w here no_surroundings true false ≡ match_of_line w here ∷ []
    one-call =
        let unbroken : (nat_lt 0 k.after_context && breaks_near k w.next_unreported w.line w.line)
        ≡ false = ⊎_elim (λ same. grind (arith, nat_tests)) (λ bare. grind (arith, nat_tests, bare.1))
        alone.close in
        ap₂ (λ xs ys. xs ++ ys) (pending-silent k w alone input (line_end w here))
        (ap (λ due. broken_calls due (matches (number_of k w.line) w.offset here no_surroundings) (line_end w here))
        unbroken)

    one-comes : (outcome : Outcome E) (new : S)
        → AreMade step k now (match_of_line w here ∷ []) outcome new
        → Comes k meaning input step first (line_end w here) false
        (Searched q (after_line k w here true)) outcome new
    one-comes outcome new made = subst (λ over. Comes k meaning input step first (line_end w here)
        over (Searched q (after_line k w here true)) outcome new) goes_on
        (uncounted.line-comes {known = None} bare
        (record { here = so_far; line = there; agrees = tt })
        line.within value outcome new
        (subst (λ calls. AreMade step k now calls outcome new) (sym one-call) made))

  -- a walk whose last line was chosen
  record IsAfterMatch (w : Walk) : Type 0 where
    close : w.next_unreported ≡ w.line
    after : w.after_context_left ≡ k.after_context

  -- many lines are chosen
  lines-come : (n : ℕ) (w : Walk) (p q i from index : ℕ) (now : S) → Searched p w now
      → IsAlone k w → IsAfterMatch w ⊎ (0 < n) → w.line ≡ from + index
      → IsLineStart t window p i
      → IsLineStart t window q (i + n) → q ≤ length window → AllHit p q
      → (outcome : Outcome E) (new : S) → AreMade step k now
      (calls_of_lines (number_of k from) index w.offset (lines t (slice_range window p q))) outcome new
      → LinesCome (Searched q (after_chosen k w (q - p) n)) outcome new
  lines-come zero w p q i from index now so_far alone least at begins ends within hit outcome new
      made =
      let plain : i ≡ i + zero = omega arith in
      let same : p ≡ q = sym begins.begins ∙ (ap (line_start t window) plain ∙ ends.begins) in
      let none : q - p ≡ 0 = omega arith in
      let empty : slice_range window p q ≡ [] = ap (λ m. take m (drop p window)) none in
      let ended : (outcome ≡ all_true) × (new ≡ now) = subst (λ ls. AreMade step k now
      (calls_of_lines (number_of k from) index w.offset (lines t ls)) outcome new) empty made in
      let last : IsAfterMatch w = ⊎_elim (λ is. is) (λ some. absurd (omega arith)) least in
      let stays : w ≡ after_chosen k w (q - p) 0 = grind (arith, none, last.close, last.after) in
      subst (λ o. LinesCome (Searched q (after_chosen k w (q - p) 0)) o new)
      (sym ended.0) (subst (Searched q (after_chosen k w (q - p) 0)) (sym ended.1)
      (subst (λ v. Searched q v now) stays (subst (λ a. Searched a w now) same so_far)))
  lines-come (suc n) w p q i from index now so_far alone least at begins ends within hit outcome new
      made = go (λ mid so_far. lines-come n next end q (i + 1) from (suc index) mid so_far
      (record { unlimited = alone.unlimited; close = inl refl })
      (inl (record { close = refl; after = refl }))
      (omega (arith, at)) (record { listed = omega arith; begins = refl })
      (subst (IsLineStart t window q) (sym sum) ends) within
      (λ j a b own after early. hit j a b own (omega (arith, line.above)) early)) outcome
      (subst (λ ls. AreMade step k now
      (calls_of_lines (number_of k from) index w.offset ls) outcome new) split made)
    where
      end : ℕ
      end = line_start t window (i + 1)

      line : IsLine t window i p end
      line = line-from begins (record { listed = omega arith; begins = refl })

      low : end ≤ q
      low = starts-until ends (i + 1) (omega arith)

      here : List ℕ
      here = slice_range window p end

      split : lines t (slice_range window p q) ≡ here ∷ lines t (slice_range window end q)
      split = line-first t window i p end q line low within

      named : option_map (λ first. first + index) (number_of k from) ≡ number_of k w.line
      named = numbered k from index ∙ ap (number_of k) (sym at)

      comes : (outcome : Outcome E) (new : S)
          → AreMade step k now (match_of_line w here ∷ []) outcome new
          → Comes k meaning input step first (line_end w here) false
          (Searched end (after_line k w here true)) outcome new
      comes = one-comes w p end i now so_far alone line
          (hit i p end line (omega arith) (omega (arith, line.above, low)))

      next : Walk
      next = after_line k w here true

      both : after_chosen k next (q - end) n ≡ after_chosen k w (q - p) (suc n)
      both = grind (
        arith,
        length-take (end - p) (drop p window),
        length-drop p window,
        low,
        within,
        line.above,
      )

      sum : (i + 1) + n ≡ i + suc n
      sum = omega arith

      go : ((mid : S) → Searched end next mid → (outcome : Outcome E) (new : S)
          → AreMade step k mid (calls_of_lines (number_of k from) (suc index) next.offset
          (lines t (slice_range window end q))) outcome new
          → LinesCome (Searched q (after_chosen k next (q - end) n)) outcome new)
          → (outcome : Outcome E) → AreMade step k now
          (calls_of_lines (number_of k from) index w.offset (here ∷ lines t (slice_range window end q)))
          outcome new
          → LinesCome (Searched q (after_chosen k w (q - p) (suc n))) outcome new
      go later outcome (inl (mid, goes, made)) = subst (λ v. LinesCome (Searched q v) outcome new) both
          (later mid ((comes all_true mid (inl (
            mid,
            subst (λ number. step now k
                (matches number w.offset here no_surroundings) (Ok true) mid) named goes,
            (refl, refl),
          ))).1 refl)
          outcome new made)
      go later outcome (inr (inl (is, stops))) =
          subst (λ o. LinesCome (Searched q (after_chosen k w (q - p) (suc n))) o new)
          (sym is) (comes (stopped (counted (line_end w here))) new (inr (inl (
            refl,
            subst (λ number.
                step now k (matches number w.offset here no_surroundings) (Ok false) new) named stops,
          ))) refl)
      go later outcome (inr (inr (e, is, fails))) =
          subst (λ o. LinesCome (Searched q (after_chosen k w (q - p) (suc n))) o new)
          (sym is) (comes (failed e) new (inr (inr (
            e,
            refl,
            subst (λ number.
                step now k (matches number w.offset here no_surroundings) (Err e) new) named fails,
          ))))

  -- the lines that are chosen at once
  pub chosen-come : (w : Walk) (p i : ℕ) (b : Bool) (run : LineRun) (now : S)
      → Searched p w now → IsLineStart t window p i → AreAlike k meaning window p i b run
      → hits_if k b ≡ true → p < run.end → run.end ≤ length window
      → chooses_alone k w ≡ true → (outcome : Outcome E) (new : S)
      → AreMade step k now (chosen_calls k window p run.end w) outcome new
      → LinesCome (Searched run.end (after_chosen k w (run.end - p) run.count)) outcome new
  chosen-come w p i b run now so_far begins alike hits some within is outcome new made =
      let before = comes-before alike.at i (omega (arith, begins.begins, some)) in
      lines-come run.count w p run.end i w.line 0 now so_far (is_alone k w is)
      (inr (omega (arith, before))) (omega arith) begins alike.at within
      (λ j a b line after early. ap (hits_if k) (alike.all j a b line after early) ∙ hits)
      outcome new made
